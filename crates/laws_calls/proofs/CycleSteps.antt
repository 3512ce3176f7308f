-- A call and a resume close no cycle of waits if they do not wait for a lock, and if they do only such as pass their transaction.
use Rattle.std.proofs.Common.{◌≡◌, ◌≢◌, inl, inr, ⊎_elim, ℕ, List, false, Ok, sym, ap, subst, ◌∙◌}
use Rattle.shore_types.specs.declared.faults.Fault.{Fault}
use Rattle.shore_types.specs.declared.faults.Fault.TheVariants as fault
use Rattle.shore_types.specs.declared.ids.Rid.{Rid}
use Rattle.shore_types.specs.declared.layout.Geometry.{Geometry}
use Rattle.shore_types.specs.declared.locking.Granule.{Granule}
use Rattle.shore_types.specs.declared.locking.Granule.TheVariants as granule
use Rattle.shore_types.specs.declared.locking.Mode.TheVariants.{EX}
use Rattle.shore_model.specs.declared.calls.Answer.{Answer}
use Rattle.shore_model.specs.declared.calls.Call.{Call}
use Rattle.shore_model.specs.declared.calls.Call.TheVariants as call
use Rattle.shore_model.specs.declared.histories.Entry.{Entry}
use Rattle.shore_model.specs.declared.histories.Opening.{Opening}
use Rattle.shore_model.specs.declared.log_records.LogRecord.{LogRecord}
use Rattle.shore_model.specs.Requests.{HasNoCycle}
use Rattle.shore_locks.proofs.Tables.{fit_of}
use Rattle.shore_locks.specs.Tables.{Table, is_waiting}
use Rattle.shore_path.specs.declared.answers.Acquired.TheVariants as acquire
use Rattle.shore_path.specs.declared.answers.OnConflict.TheVariants.{Refuse}
use Rattle.laws_locks.specs.CallLocks.{Asked}
use Rattle.shore_deadlock.proofs.AcquireLemmas.{ClosesOwn, acquire_closes}
use Rattle.shore_deadlock.proofs.LawLemmas.{release_keeps_free}
use Rattle.shore_cycles.specs.Cycles.{IsOnEachCycle}
use Rattle.shore_model.specs.declared.rollbacks.Rollback.TheVariants.{Whole}
use Rattle.laws_lives.specs.Sessions.{SessionTxn}
use Rattle.shore_model.specs.declared.step.Step.{Step}
use Rattle.shore_model.specs.declared.step.Step.TheVariants.{Done, Nothing, Refused, Waits}
use Rattle.shore_model.specs.declared.step.Wait.{Wait}
use Rattle.shore_model.specs.declared.step.Wait.TheVariants.{Durable, Lock}
use Rattle.laws_calls.proofs.AskedLocks.{begin_keeps_locks, refused_locks}
use Rattle.laws_calls.proofs.GoingOn.{never_waiting, refused_not_waiting}
use Rattle.laws_calls.proofs.RollingLeaves.{back_table, interrupted_table, savepoint_table}
use Rattle.laws_calls.proofs.SessionResumes.{woken}
use Rattle.laws_calls.proofs.Sessions.{its_txn}
use Rattle.laws_calls.proofs.TakenLocks.{leaves, locked_state}
use Rattle.laws_calls.specs.CallHistories.{txn_of}
use Rattle.laws_calls.specs.CallSteps.{AbortStep, AnswersBehind, CallStep, CallGoesOn, HasLocked, InnerStep, RefusesBehind, ResumeStep, ResumesCall, ResumesWait, behind_place, lock_outcome, on_conflict_of, place_outcome, OutsideStep, CommitStep}
use Rattle.laws_calls.specs.LockedStates.{IsSessionsState}
use Rattle.laws_calls.specs.Settling.{WaitsForNoLock}
use Rattle.laws_calls.specs.StateChanges.{wait_refused}
use Rattle.laws_calls.specs.States.{HasSeat, IsOfSession, State, Waiting}
use Rattle.laws_calls.proofs.PrepareSteps.{prepare_locks}
use Rattle.laws_calls.proofs.ResolveLeaves.{resolve_locks}
use Rattle.laws_calls.proofs.Outside.{outside_or}

-- no cycle is left unless the step waits for a lock, and each passes the transaction
pub record ClosesAtMost (t : ℕ) (step : Step) (new : State) : Type 0 where
  pub free : WaitsForNoLock step → HasNoCycle new.locks.requests
  pub each : IsOnEachCycle new.locks.requests t

pub no_cycle_at_all : (t : ℕ) (step : Step) (new : State) → HasNoCycle new.locks.requests → ClosesAtMost t step new
no_cycle_at_all t step new none = record { free = λ waits_not. none; each = λ cycle closed. absurd (none cycle closed) }

-- the lock table stays
pub none_as_before : (s new : State) → new.locks ≡ s.locks → HasNoCycle s.locks.requests → HasNoCycle new.locks.requests
none_as_before s new same none = subst (λ (x : Table). HasNoCycle x.requests) (sym same) none

-- ---- from its locks on

module _ (o : Opening) (found : List LogRecord) (es : List Entry) (a : SessionTxn) where
  -- the transaction may ask, and there is no cycle
  pub record MayAskFree (s : State) : Type 0 where
    pub state : IsSessionsState o found es s
    pub active : HasSeat s.sessions a
    pub quiet : is_waiting a.txn s.locks.requests ≡ false
    pub none : HasNoCycle s.locks.requests

  lock_closes : (s : State) → MayAskFree s → (c : Call) (lock : Asked) → ClosesOwn a.txn (lock_outcome s a c lock)
  lock_closes s k c lock = acquire_closes (on_conflict_of c) s.locks a.txn lock.granule lock.mode (fit_of s.locks.requests k.state.locks.orderly) k.quiet k.none

  -- it has its lock
  had_free : (s : State) → MayAskFree s → (c : Call) (locked : State) → HasLocked s a c locked → MayAskFree locked
  had_free s k c locked h =
      let lock = h.0 in
      let never = never_waiting h.2 in
      subst MayAskFree (sym h.3)
      (record {
        state = locked_state o found es s k.state a k.active k.quiet (on_conflict_of c) lock.granule lock.mode never;
        active = k.active;
        quiet = (leaves o found es s k.state a k.active k.quiet (on_conflict_of c) lock.granule lock.mode).quiet never;
        none = (lock_closes s k c lock).free never;
      })

  place_free : (l : State) → MayAskFree l → (id : Rid) → ((at : Granule) → (place_outcome l a id).answer ≢ Ok (acquire.Waiting at)) → HasNoCycle (behind_place l a id).locks.requests
  place_free l k id never = (acquire_closes Refuse l.locks a.txn (granule.Record id) EX (fit_of l.locks.requests k.state.locks.orderly) k.quiet k.none).free never

  module _ (g : Geometry) (l new : State) (k : MayAskFree l) where
    same : new.locks ≡ l.locks → HasNoCycle new.locks.requests
    same is = none_as_before l new is k.none

    placed : (id : Rid) → ((at : Granule) → (place_outcome l a id).answer ≢ Ok (acquire.Waiting at)) → new.locks ≡ (behind_place l a id).locks → HasNoCycle new.locks.requests
    placed id never is = none_as_before (behind_place l a id) new is (place_free l k id never)

    answers_free : (c : Call) (answer : Answer) → AnswersBehind g l a c answer new → HasNoCycle new.locks.requests
    answers_free (call.Get id) answer h = same (ap (λ (x : State). x.locks) h.1)
    answers_free (call.GetForUpdate id) answer h = same (ap (λ (x : State). x.locks) h.1)
    answers_free (call.Insert store bytes) answer h = placed h.0 (never_waiting h.1.1) (ap (λ (x : State). x.locks) h.3.2)
    answers_free (call.Update id bytes) answer h = same (ap (λ (x : State). x.locks) h.2.2)
    answers_free (call.Delete id) answer h = same (ap (λ (x : State). x.locks) h.2.2)
    answers_free (call.Scan store) answer h = same (ap (λ (x : State). x.locks) h.1)
    answers_free (call.Lock at mode) answer h = same (ap (λ (x : State). x.locks) h.1)
    answers_free (call.TryLock at mode) answer h = same (ap (λ (x : State). x.locks) h.1)
    answers_free _ answer h = absurd h

    refusals_free : (c : Call) (f : Fault) → RefusesBehind g l a c f new → HasNoCycle new.locks.requests
    refusals_free (call.Get id) f h = same (ap (λ (x : State). x.locks) h.1 ∙ refused_locks f l)
    refusals_free (call.GetForUpdate id) f h = same (ap (λ (x : State). x.locks) h.1 ∙ refused_locks f l)
    refusals_free (call.Insert store bytes) f (inl h) = same (ap (λ (x : State). x.locks) h.2)
    refusals_free (call.Insert store bytes) f (inr (inl h)) = placed h.1.0 (refused_not_waiting fault.LockTableFull h.1.2) (ap (λ (x : State). x.locks) h.1.3)
    refusals_free (call.Insert store bytes) f (inr (inr (inl h))) = placed h.1.0 (never_waiting h.1.1.1) (ap (λ (x : State). x.locks) h.1.3)
    refusals_free (call.Insert store bytes) f (inr (inr (inr h))) = same (ap (λ (x : State). x.locks) h.1 ∙ refused_locks f l)
    refusals_free (call.Update id bytes) f h = same (ap (λ (x : State). x.locks) h.1 ∙ refused_locks f l)
    refusals_free (call.Delete id) f h = same (ap (λ (x : State). x.locks) h.1 ∙ refused_locks f l)
    refusals_free (call.Scan store) f h = same (ap (λ (x : State). x.locks) h.1 ∙ refused_locks f l)
    refusals_free _ f h = absurd h

  pub goes_closes : (g : Geometry) (s : State) → MayAskFree s → (c : Call) (step : Step) (new : State) → CallGoesOn g s a c step new → ClosesAtMost a.txn step new
  goes_closes g s k c (Done answer) new h = no_cycle_at_all a.txn (Done answer) new (answers_free g h.0 new (had_free s k c h.0 h.1) c answer h.2)
  goes_closes g s k c (Waits wait) new h = record {
    free = λ waits_not. absurd (subst (λ (x : Wait). WaitsForNoLock (Waits x)) h.4 waits_not);
    each = subst (λ (x : State). IsOnEachCycle x.locks.requests a.txn) (sym h.5) (lock_closes s k c h.0).each;
  }
  goes_closes g s k c (Refused f) new (inl h) =
      no_cycle_at_all a.txn (Refused f) new
      (⊎_elim
      (λ is. none_as_before s new (ap (λ (x : State). x.locks) is) k.none)
      (λ locked.
      let had = had_free s k c locked.0 locked.1 in
      ⊎_elim
      (λ is. none_as_before locked.0 new (ap (λ (x : State). x.locks) is) had.none)
      (λ place. placed g locked.0 new had place.2 (never_waiting place.4.1) (ap (λ (x : State). x.locks) place.5))
      locked.2)
      h.1)
  goes_closes g s k c (Refused f) new (inr (inl h)) =
      no_cycle_at_all a.txn (Refused f) new
      (subst (λ (x : State). HasNoCycle x.locks.requests) (sym h.3) ((lock_closes s k c h.0).free (refused_not_waiting f h.2)))
  goes_closes g s k c (Refused f) new (inr (inr h)) = no_cycle_at_all a.txn (Refused f) new (refusals_free g h.0 new (had_free s k c h.0 h.1) c f h.2)
  goes_closes g s k c Nothing new h = absurd h

-- ---- calls

module _ (g : Geometry) (o : Opening) (found : List LogRecord) (es : List Entry) (s : State) (k : IsSessionsState o found es s) (none : HasNoCycle s.locks.requests) where
  abort_free : (a : SessionTxn) (step : Step) (new : State) → AbortStep s a step new → HasNoCycle new.locks.requests
  abort_free a (Done answer) new h = subst (λ (x : State). HasNoCycle x.locks.requests) (sym h.1) (release_keeps_free s.locks.requests a.txn k.locks.orderly none)
  abort_free a (Refused f) new h = none_as_before s new (interrupted_table s a Whole f new h).locks none
  abort_free a (Waits wait) new h = absurd h
  abort_free a Nothing new h = absurd h

  commit_free : (a : SessionTxn) (step : Step) (new : State) → CommitStep s a step new → HasNoCycle new.locks.requests
  commit_free a (Done answer) new h = subst (λ (x : State). HasNoCycle x.locks.requests) (sym h.1) (release_keeps_free s.locks.requests a.txn k.locks.orderly none)
  commit_free a (Refused f) new h = absurd h
  commit_free a (Waits wait) new h = absurd h
  commit_free a Nothing new h = absurd h

  inner_closes : (a : SessionTxn) → HasSeat s.sessions a → is_waiting a.txn s.locks.requests ≡ false → (c : Call) (step : Step) (new : State) → InnerStep g s a c step new
      → ClosesAtMost a.txn step new
  inner_closes a mem quiet c step new (inl h) = no_cycle_at_all a.txn step new (none_as_before s new (ap (λ (x : State). x.locks) h.3) none)
  inner_closes a mem quiet c step new (inr (inl (whole, inl h))) = no_cycle_at_all a.txn step new (none_as_before s new (ap (λ (x : State). x.locks) h.3) none)
  inner_closes a mem quiet c step new (inr (inl (whole, inr (inl h)))) =
      goes_closes o found es a g s (record { state = k; active = mem; quiet = quiet; none = none }) c step new h.1
  inner_closes a mem quiet c step new (inr (inl (whole, inr (inr (inl h))))) = no_cycle_at_all a.txn step new (commit_free a step new h.1)
  inner_closes a mem quiet c step new (inr (inl (whole, inr (inr (inr (inl h)))))) = no_cycle_at_all a.txn step new (none_as_before s new (savepoint_table s a step new h.1).locks none)
  inner_closes a mem quiet c step new (inr (inl (whole, inr (inr (inr (inr h)))))) = no_cycle_at_all a.txn step new (none_as_before s new (prepare_locks g.version s a h.0 step new h.2) none)
  inner_closes a mem quiet c step new (inr (inr (inl h))) = no_cycle_at_all a.txn step new (none_as_before s new (back_table s a h.0 step new h.3).locks none)
  inner_closes a mem quiet c step new (inr (inr (inr h))) = no_cycle_at_all a.txn step new (abort_free a step new h.1)

  -- the number that the session's calls go under
  as_its : (session : ℕ) (a : SessionTxn) → IsOfSession s session a → (step : Step) (new : State) → ClosesAtMost a.txn step new → ClosesAtMost (txn_of s.sessions session) step new
  as_its session a of step new h = subst (λ t. ClosesAtMost t step new) (sym (its_txn s.sessions a session of.0.1 of.1)) h

  outside_free : (session : ℕ) (c : Call) (step : Step) (new : State) → OutsideStep s session c step new → HasNoCycle new.locks.requests
  outside_free session c step new h = ⊎_elim
      (λ same. none_as_before s new (ap (λ (x : State). x.locks) same) none)
      (λ r. ⊎_elim
      (λ same. none_as_before s new same none)
      (λ gone. subst HasNoCycle (sym gone.requests) (release_keeps_free s.locks.requests gone.txn.txn k.locks.orderly none))
      (resolve_locks s session r.global r.asked step new r.to))
      (outside_or s session c step new h)

  pub call_closes : (session : ℕ) (c : Call) (step : Step) (new : State) → CallStep g s session c step new → ClosesAtMost (txn_of s.sessions session) step new
  call_closes session c step new (inl h) = no_cycle_at_all _ step new (none_as_before s new (ap (λ (x : State). x.locks) h.1) none)
  call_closes session c step new (inr (inl h)) = no_cycle_at_all _ step new (none_as_before s new (ap (λ (x : State). x.locks) h.2) none)
  call_closes session c step new (inr (inr (inl h))) = no_cycle_at_all _ step new (none_as_before s new (ap (λ (x : State). x.locks) h.3) none)
  call_closes session c step new (inr (inr (inr (inl h)))) = no_cycle_at_all _ step new (none_as_before s new (begin_keeps_locks s session step new h.3) none)
  call_closes session c step new (inr (inr (inr (inr (inl h))))) = no_cycle_at_all _ step new (none_as_before s new (ap (λ (x : State). x.locks) h.5) none)
  call_closes session c step new (inr (inr (inr (inr (inr (inr (inl h))))))) = no_cycle_at_all _ step new (none_as_before s new (ap (λ (x : State). x.locks) h.5) none)
  call_closes session c step new (inr (inr (inr (inr (inr (inr (inr h))))))) = no_cycle_at_all _ step new (outside_free session c step new h.2)
  call_closes session c step new (inr (inr (inr (inr (inr (inl h)))))) =
      let a = h.2.0 in
      let of = h.2.1 in
      as_its session a of step new (inner_closes a of.0 (k.locks.waits h.0 a of.0.0 (λ w m spared same. h.1 w m (same ∙ of.1))) c step new h.2.2)

  -- ---- resumes

  wait_closes : (w : Waiting) (wait : Wait) (step : Step) (new : State) → ResumesWait g s w wait step new → ClosesAtMost (txn_of s.sessions w.session) step new
  wait_closes w (Durable n) step new (inl h) = no_cycle_at_all _ step new (none_as_before s new (ap (λ (x : State). x.locks) h.2) none)
  wait_closes w (Durable n) step new (inr (inl h)) = no_cycle_at_all _ step new (none_as_before s new (ap (λ (x : State). x.locks) h.2.4) none)
  wait_closes w (Durable n) step new (inr (inr h)) = no_cycle_at_all _ step new (none_as_before s new (ap (λ (x : State). x.locks) h.2.3) none)
  wait_closes w (Lock at) step new h = ⊎_elim
      (λ still. no_cycle_at_all _ step new (none_as_before s new (ap (λ (x : State). x.locks) still.2) none))
      (λ free.
      as_its w.session h.0 h.1 step new
      (goes_closes o found es h.0 g (wait_refused s w.session)
      (record { state = woken g o found es s k h.0 w.session h.1 free.0; active = h.1.0; quiet = free.0; none = none }) w.call step new free.1))
      h.2

  resumed_closes : (w : Waiting) (step : Step) (new : State) → ResumesCall g s w step new → ClosesAtMost (txn_of s.sessions w.session) step new
  resumed_closes w step new (inl h) = no_cycle_at_all _ step new (none_as_before s new (ap (λ (x : State). x.locks) h.2) none)
  resumed_closes w step new (inr h) = wait_closes w w.wait step new h.1

  pub resume_closes : (session : ℕ) (step : Step) (new : State) → ResumeStep g s session step new → ClosesAtMost (txn_of s.sessions session) step new
  resume_closes session step new (inl h) = no_cycle_at_all _ step new (none_as_before s new (ap (λ (x : State). x.locks) h.2) none)
  resume_closes session step new (inr h) = subst (λ n. ClosesAtMost (txn_of s.sessions n) step new) h.2 (resumed_closes h.0 step new h.3)
