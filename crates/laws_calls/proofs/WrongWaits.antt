-- Waits of calls that must not come.
use Rattle.std.proofs.Common.{◌≡◌, ◌≢◌, inl, ⊎_elim, ℕ, None, Some, ap, subst, ◌∙◌, length, arith, Ok, refl, List, inr, length-append}
use Rattle.std.specs.Prelude.{IsTrue}
use Rattle.shore_types.specs.declared.layout.Geometry.{Geometry}
use Rattle.shore_types.specs.declared.locking.Granule.{Granule}
use Rattle.shore_types.specs.declared.locking.Mode.{Mode}
use Rattle.shore_model.specs.Logs.{previous_of}
use Rattle.shore_model.specs.declared.calls.Call.{Call}
use Rattle.shore_model.specs.declared.calls.Call.TheVariants as call
use Rattle.shore_model.specs.declared.log_records.Payload.TheVariants as payload
use Rattle.shore_path.specs.declared.answers.Acquired.TheVariants as acquire
use Rattle.laws_locks.specs.CallLocks.{Asked, lock_asked_by}
use Rattle.laws_lives.proofs.Lists.{length-push}
use Rattle.laws_lives.specs.Sessions.{SessionTxn}
use Rattle.laws_lives.specs.Views.{IsAmong}
use Rattle.shore_model.specs.declared.step.Step.TheVariants.{Waits}
use Rattle.shore_model.specs.declared.step.Wait.{Wait}
use Rattle.shore_model.specs.declared.step.Wait.TheVariants.{Durable, Lock}
use Rattle.laws_calls.proofs.AcquireAnswers.{try_never_waits}
use Rattle.laws_calls.proofs.Decided.{both_ways}
use Rattle.laws_calls.proofs.SessionInversions.{waits_on_lock, waits_on_record, waits_of, waits_running, no_waits_refused}
use Rattle.laws_calls.specs.CallSteps.{CallStep, lock_outcome, InnerStep, NeedsTxn}
use Rattle.laws_calls.specs.Shapes.{ForItsTxn}
use Rattle.laws_calls.specs.States.{HasNoTxn, State, Waiting, next_number, IsOfSession}
use Rattle.laws_calls.proofs.Sessions.{in_one}
use Rattle.laws_calls.specs.Prepares.{PrepareStep, granules_in_ex}
use Rattle.shore_model.specs.Histories.{decision_asked_by}
use Rattle.shore_types.specs.declared.faults.Fault.TheVariants as fault
use Rattle.laws_calls.proofs.SessionEndings.{call_waits}
use Rattle.shore_model.specs.declared.calls.Outcome.{Outcome}
use Rattle.shore_model.specs.declared.calls.Outcome.TheVariants as outcome
use Rattle.laws_calls.specs.Resolves.{ResolvesTo, resolve_committed}
use Rattle.laws_calls.proofs.Outside.{resolve_in}
use Rattle.laws_calls.proofs.LongerLogs.{decided_further}
use Rattle.laws_calls.proofs.Unwinding.{compensations_on}
use Rattle.laws_lives.specs.Logged.{and_compensations}

same_granule_waited : (at other : Granule) → Lock at ≡ Lock other → other ≡ at
same_granule_waited at other e = cc

module _ (g : Geometry) (s new : State) (session : ℕ) where
  abbrev WaitsFor : Call → Wait → Type 0
  WaitsFor c wait = CallStep g s session c (Waits wait) new

  -- a commit never waits
  pub commit_waits : (wait : Wait) → WaitsFor call.Commit wait → ⊥
  commit_waits wait h = let t = waits_of g s new session call.Commit wait tt h in by t.0 t.2
    where
      by : (a : SessionTxn) → InnerStep g s a call.Commit (Waits wait) new → ⊥
      by a (inl x) = no_waits_refused wait fault.MustAbort x.2
      by a (inr (inl (whole, inl x))) = absurd x.1
      by a (inr (inl (whole, inr (inl x)))) = absurd x.0
      by a (inr (inl (whole, inr (inr (inl x))))) = absurd x.1
      by a (inr (inl (whole, inr (inr (inr (inl x)))))) = absurd x.1
      by a (inr (inl (whole, inr (inr (inr (inr x)))))) = let clash = x.1 in cc
      by a (inr (inr (inl x))) = absurd x.3
      by a (inr (inr (inr x))) = absurd x.1

  -- a prepare goes last in the log, and waits for its record
  pub prepare_appended : (global : List ℕ) (wait : Wait) → WaitsFor (call.Prepare global) wait → (a : SessionTxn) × IsOfSession s session a × PrepareStep g.version s a global (Waits wait) new
  prepare_appended global wait h = let t = waits_of g s new session (call.Prepare global) wait tt h in (t.0, t.1, by t.0 t.2)
    where
      same_global : (name : List ℕ) → call.Prepare global ≡ call.Prepare name → name ≡ global
      same_global name e = cc

      by : (a : SessionTxn) → InnerStep g s a (call.Prepare global) (Waits wait) new → PrepareStep g.version s a global (Waits wait) new
      by a (inl x) = absurd (no_waits_refused wait fault.MustAbort x.2)
      by a (inr (inl (whole, inl x))) = absurd x.1
      by a (inr (inl (whole, inr (inl x)))) = absurd x.0
      by a (inr (inl (whole, inr (inr (inl x))))) = let clash = x.0 in absurd cc
      by a (inr (inl (whole, inr (inr (inr (inl x)))))) = absurd x.1
      by a (inr (inl (whole, inr (inr (inr (inr x)))))) = subst (λ name. PrepareStep g.version s a name (Waits wait) new) (same_global x.0 x.1) x.2
      by a (inr (inr (inl x))) = absurd x.3
      by a (inr (inr (inr x))) = absurd x.1

  pub prepare_for_other_record : (global : List ℕ) (wait : Wait) → wait ≢ Durable (next_number s) → WaitsFor (call.Prepare global) wait → ⊥
  prepare_for_other_record global wait other h = other (prepare_appended global wait h).2.3

  pub prepare_unlogged : (global : List ℕ) (wait : Wait) → new.log ≡ s.log → WaitsFor (call.Prepare global) wait → ⊥
  prepare_unlogged global wait same h =
      let t = prepare_appended global wait h in
      let e = ap (λ (s : State). length s.log) t.2.4 in
      let longer = length-push s.log (record { txn = t.0.txn; previous = previous_of t.0.txn s.log; payload = payload.Prepare global (granules_in_ex s t.0) }) in
      let long = ap length same in
      omega arith

  -- any other call waits for a lock, where its acquire does
  pub waits_for_no_decision : (t : ℕ) (c : Call) (n : ℕ) → decision_asked_by t c ≡ None → WaitsFor c (Durable n) → ⊥
  waits_for_no_decision t c n none h = ⊎_elim
      (λ its. let clash : decision_asked_by t (call.Prepare its.3.0) ≡ None = subst (λ (x : Call). decision_asked_by t x ≡ None) its.3.1 none in cc)
      (⊎_elim
      (λ commit. let clash : decision_asked_by t (call.Resolve commit.global outcome.Commit) ≡ None = subst (λ (x : Call). decision_asked_by t x ≡ None) commit.is none in cc)
      (λ back. let clash : decision_asked_by t (call.Resolve back.global outcome.Abort) ≡ None = subst (λ (x : Call). decision_asked_by t x ≡ None) back.is none in cc))
      (waits_on_record g s new session c n h)

  -- a resolve to commit waits for its record, which goes last
  resolve_appended : (global : List ℕ) (wait : Wait) → WaitsFor (call.Resolve global outcome.Commit) wait → (a : SessionTxn) × (wait ≡ Durable (next_number s)) × (new ≡ resolve_committed s session a global)
  resolve_appended global wait h = ⊎_elim
      (λ general. let clash = general.2 in absurd cc)
      (λ goes. ⊎_elim (λ early. let clash = early.2 in absurd cc) (λ on. (on.1.0, on.1.2, on.1.3)) goes.2)
      (resolve_in g s new session global outcome.Commit (Waits wait) h)

  pub resolve_for_other_record : (global : List ℕ) (wait : Wait) → wait ≢ Durable (next_number s) → WaitsFor (call.Resolve global outcome.Commit) wait → ⊥
  resolve_for_other_record global wait other h = other (resolve_appended global wait h).1

  pub resolve_unlogged : (global : List ℕ) (asked : Outcome) (wait : Wait) → new.log ≡ s.log → WaitsFor (call.Resolve global asked) wait → ⊥
  resolve_unlogged global asked wait same h = ⊎_elim
      (λ general. let clash = general.2 in absurd cc)
      (λ goes. ⊎_elim (λ early. let clash = early.2 in absurd cc) (λ on. by asked on.1) goes.2)
      (resolve_in g s new session global asked (Waits wait) h)
    where
      by : (asked : Outcome) → ResolvesTo s session global asked (Waits wait) new → ⊥
      by outcome.Commit to =
          let e = ap (λ (x : State). length x.log) to.3 in
          let longer = length-push s.log (record { txn = to.0.txn; previous = previous_of to.0.txn s.log; payload = payload.Commit }) in
          let long = ap length same in
          omega (arith, e, longer, long)
      by outcome.Abort to =
          let d = (decided_further s global to.0 to.1 to.2).on in
          let front = ap length d.1 ∙ length-append s.log d.0 in
          let mid = (compensations_on to.0.txn to.1.log to.0.undo.images) in
          let between = ap length mid.1 ∙ length-append to.1.log mid.0 in
          let e = ap (λ (x : State). length x.log) to.3.2 in
          let ends = length-push (and_compensations to.0.txn to.1.log to.0.undo.images) (record { txn = to.0.txn; previous = previous_of to.0.txn (and_compensations to.0.txn to.1.log to.0.undo.images); payload = payload.End }) in
          let long = ap length same in
          omega (arith, front, between, e, ends, long)

  pub waits_though_free : (c : Call) (at : Granule)
      → ForItsTxn s session (λ a. (lock : Asked) → lock_asked_by c ≡ Some lock → (lock_outcome s a c lock).answer ≢ Ok (acquire.Waiting at)) → WaitsFor c (Lock at) → ⊥
  waits_though_free c at never h =
      let t = waits_on_lock g s new session c at h in
      never t.txn t.of t.goes.0 t.goes.2 (t.goes.3 ∙ ap (λ (x : Granule). Ok (acquire.Waiting x)) (same_granule_waited at t.goes.1 t.goes.4))

  pub try_waits : (at : Granule) (mode : Mode) (wait : Wait) → WaitsFor (call.TryLock at mode) wait → ⊥
  try_waits at mode (Durable n) h = waits_for_no_decision 0 (call.TryLock at mode) n refl h
  try_waits at mode (Lock where_at) h =
      let t = waits_on_lock g s new session (call.TryLock at mode) where_at h in
      try_never_waits s.locks t.txn.txn t.goes.0.granule t.goes.0.mode t.goes.1 t.goes.3

  pub begin_waits : (wait : Wait) → WaitsFor call.Begin wait → ⊥
  begin_waits (Durable n) h = waits_for_no_decision 0 call.Begin n refl h
  begin_waits (Lock at) h = (waits_on_lock g s new session call.Begin at h).may

  pub waits_in_no_txn : (c : Call) (wait : Wait) → NeedsTxn c → HasNoTxn s session → WaitsFor c wait → ⊥
  waits_in_no_txn c wait needs none h = let t = waits_of g s new session c wait needs h in in_one s session t.0 t.1 none

  pub waits_after_failure : (c : Call) (wait : Wait) → IsTrue s.failed → WaitsFor c wait → ⊥
  waits_after_failure c wait failed h = both_ways s.failed failed (waits_running g s new session c wait h).0

  pub waits_twice : (c : Call) (wait : Wait) (w : Waiting) → IsAmong w s.waiting → w.session ≡ session → WaitsFor c wait → ⊥
  waits_twice c wait w m of h = (waits_running g s new session c wait h).1 w m of

  -- the call is among those that wait
  pub waits_there : (c : Call) (wait : Wait) → WaitsFor c wait → IsAmong (record { session = session; call = c; wait = wait; cycle = None }) new.waiting
  waits_there c wait h = call_waits g s new session c wait h
