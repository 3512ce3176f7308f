-- The state alone decides what a call and a resume of a session come to, and what that leaves.
use Rattle.std.proofs.Common.{◌≡◌, ◌≢◌, ◌⊎◌, inl, inr, ◌≤◌, ℕ, List, ◌∷◌, true, false, Some, refl, sym, ap, subst, ◌∙◌, arith, Ok, Err}
use Rattle.std.specs.Prelude.{IsTrue, Result}
use Rattle.shore_types.specs.declared.faults.Fault.{Fault}
use Rattle.shore_types.specs.declared.faults.Fault.TheVariants as fault
use Rattle.shore_types.specs.declared.layout.Geometry.{Geometry}
use Rattle.shore_types.specs.declared.locking.Granule.{Granule}
use Rattle.shore_model.specs.declared.calls.Answer.{Answer}
use Rattle.shore_model.specs.declared.calls.Call.{Call}
use Rattle.shore_model.specs.declared.calls.Call.TheVariants as call
use Rattle.shore_model.specs.declared.histories.Entry.{Entry}
use Rattle.shore_model.specs.declared.histories.Opening.{Opening}
use Rattle.shore_model.specs.declared.log_records.LogRecord.{LogRecord}
use Rattle.shore_locks.specs.Tables.{is_waiting}
use Rattle.shore_path.specs.declared.answers.Acquired.{Acquired}
use Rattle.shore_path.specs.declared.answers.Acquired.TheVariants as acquire
use Rattle.laws_locks.specs.CallLocks.{Asked, lock_asked_by}
use Rattle.shore_model.specs.declared.rollbacks.Rollback.{Rollback}
use Rattle.shore_model.specs.declared.rollbacks.Rollback.TheVariants.{To, Whole}
use Rattle.laws_lives.specs.Sessions.{SessionTxn, in_prepared, IsUnused, ResolvedTxn, in_use}
use Rattle.laws_lives.specs.Views.{IsAmong}
use Rattle.shore_model.specs.declared.step.Step.{Step}
use Rattle.shore_model.specs.declared.step.Step.TheVariants.{Done, Nothing, Refused, Waits}
use Rattle.shore_model.specs.declared.step.Wait.{Wait}
use Rattle.shore_model.specs.declared.step.Wait.TheVariants.{Durable, Lock}
use Rattle.laws_calls.proofs.Decided.{both_ways}
use Rattle.laws_calls.proofs.OneBehind.{AreOne, Comparable, StepsBehind, left_no_memory, one_behind, right_no_memory}
use Rattle.laws_calls.proofs.Rows.{none_fails, one_fails}
use Rattle.laws_calls.proofs.SessionInversions.{same_lock}
use Rattle.laws_calls.proofs.Sessions.{one_txn, not_prepared, one_member, in_one}
use Rattle.laws_calls.specs.Rollbacks.{BackToStep, SavepointStep}
use Rattle.laws_calls.specs.Shapes.{rollback_of}
use Rattle.laws_calls.specs.StateChanges.{answered, wait_refused}
use Rattle.laws_calls.specs.CallSteps.{AbortStep, AnswersBehind, BeginStep, CommitStep, CallGoesOn, InnerStep, MayAsk, OpenStep, RefusesBehind, RefusesEarly, ResumesCall, ResumesWait, CallStep, ResumeStep, behind_lock, lock_outcome, lock_waiting, InDoubtStep, NeedsTxn, OutsideStep, prepare_ended, HasEnded, IsPreparing}
use Rattle.laws_calls.specs.Events.{IsStateAfter}
use Rattle.laws_calls.specs.States.{DoesNotWait, HasNoTxn, IsOfSession, State, Waiting, HasPrepared}
use Rattle.shore_model.specs.declared.sessions.SessionState.{SessionState}
use Rattle.laws_calls.specs.Prepares.{PrepareStep, RefusesPrepare, IsGlobalId, MayPrepare}
use Rattle.laws_calls.proofs.OneInterrupted.{Compares, one_interrupted}
use Rattle.laws_calls.proofs.OneResolve.{one_resolve}
use Rattle.laws_calls.proofs.Outside.{not_outside, no_txn_resolves}
use Rattle.shore_model.specs.declared.calls.Outcome.{Outcome}
use Rattle.laws_calls.specs.Resolves.{ResolveStep, resolve_ended}
use Rattle.laws_calls.proofs.ResolveLists.{one_resolved}
use Rattle.laws_calls.proofs.UnderGlobal.{one_global, used_resolved}
use Rattle.shore_model.specs.declared.calls.Answer.TheVariants.{Prepared, Resolved}
use Rattle.laws_calls.proofs.EarlyTests.{early_tests, early_fails, may_pass, one_begin}

-- ---- behind what the lock table makes of a call's lock

module _ (g : Geometry) (s : State) (a : SessionTxn) (c : Call) where
  abbrev GoesBy : Asked → Result Acquired Fault → Step → State → Type 0
  GoesBy lock (Ok acquire.Done) step new = StepsBehind g (behind_lock s a c lock) a c step new
  GoesBy lock (Ok (acquire.Waiting at)) step new = (step ≡ Waits (Lock at)) × (new ≡ record (behind_lock s a c lock) { waiting = lock_waiting a c at ∷ s.waiting })
  GoesBy lock (Err f) step new = (step ≡ Refused f) × (new ≡ behind_lock s a c lock)

  abbrev Goes : Asked → Step → State → Type 0
  Goes lock step new = GoesBy lock (lock_outcome s a c lock).answer step new

  goes_by : (step : Step) (new : State) → step ≢ Refused fault.Memory → CallGoesOn g s a c step new → (lock : Asked) × (lock_asked_by c ≡ Some lock) × Goes lock step new
  goes_by (Done answer) new some h =
      (h.1.0, h.1.1, subst (λ o. GoesBy h.1.0 o (Done answer) new) (sym h.1.2) (subst (λ (l : State). AnswersBehind g l a c answer new) h.1.3 h.2))
  goes_by (Waits wait) new some h = (h.0, h.2, subst (λ o. GoesBy h.0 o (Waits wait) new) (sym h.3) (ap Waits h.4, h.5))
  goes_by (Refused f) new some (inl h) = absurd (some (ap Refused h.0))
  goes_by (Refused f) new some (inr (inl h)) = (h.0, h.1, subst (λ o. GoesBy h.0 o (Refused f) new) (sym h.2) (refl, h.3))
  goes_by (Refused f) new some (inr (inr h)) =
      (h.1.0, h.1.1, subst (λ o. GoesBy h.1.0 o (Refused f) new) (sym h.1.2) (subst (λ (l : State). RefusesBehind g l a c f new) h.1.3 h.2))
  goes_by Nothing new some h = absurd h

  one_by : (lock : Asked) (o : Result Acquired Fault) (x y : Step) (new later : State) → Comparable x y → GoesBy lock o x new → GoesBy lock o y later → AreOne x y new later
  one_by lock (Ok acquire.Done) x y new later both h k = one_behind g (behind_lock s a c lock) a c x y new later both h k
  one_by lock (Ok (acquire.Waiting at)) x y new later both h k = (h.0 ∙ sym k.0, h.1 ∙ sym k.1)
  one_by lock (Err f) x y new later both h k = (h.0 ∙ sym k.0, h.1 ∙ sym k.1)

  one_going : (x y : Step) (new later : State) → Comparable x y → CallGoesOn g s a c x new → CallGoesOn g s a c y later → AreOne x y new later
  one_going x y new later both h k =
      let p = goes_by x new (left_no_memory x y both) h in
      let q = goes_by y later (right_no_memory x y both) k in
      one_by p.0 (lock_outcome s a c p.0).answer x y new later both p.2
      (subst (λ (lock : Asked). Goes lock y later) (same_lock (lock_asked_by c) q.0 p.0 q.1 p.1) q.2)

-- ---- calls

module _ (g : Geometry) (s : State) where
  one_commit : (a : SessionTxn) (x y : Step) (new later : State) → CommitStep s a x new → CommitStep s a y later → AreOne x y new later
  one_commit a (Done x) (Done y) new later h k = (ap Done (h.0 ∙ sym k.0), h.1 ∙ sym k.1)
  one_commit a (Done x) (Waits w) new later h k = absurd k
  one_commit a (Done x) (Refused f) new later h k = absurd k
  one_commit a (Done x) Nothing new later h k = absurd k
  one_commit a (Waits v) y new later h k = absurd h
  one_commit a (Refused e) y new later h k = absurd h
  one_commit a Nothing y new later h k = absurd h

  no_commit_early : (c : Call) (f : Fault) → c ≡ call.Commit → RefusesEarly g c f → ⊥
  no_commit_early c f e h = absurd (subst (λ (c : Call). RefusesEarly g c f) e h)

  no_commit_asks : (c : Call) → c ≡ call.Commit → MayAsk g c → ⊥
  no_commit_asks c e h = absurd (subst (MayAsk g) e h)

  one_savepoint : (a : SessionTxn) (x y : Step) (new later : State) → SavepointStep s a x new → SavepointStep s a y later → AreOne x y new later
  one_savepoint a (Done x) (Done y) new later h k =
      let same : x ≡ y = h.1 ∙ sym k.1 in (ap Done same, h.2 ∙ ap (λ (v : Answer). answered s a call.Savepoint v s.counts) same ∙ sym k.2)
  one_savepoint a (Done x) (Refused f) new later h k = let less = h.0 in let full = k.1 in absurd (omega arith)
  one_savepoint a (Refused f) (Done y) new later h k = let less = k.0 in let full = h.1 in absurd (omega arith)
  one_savepoint a (Refused e) (Refused f) new later h k = (ap Refused (h.0 ∙ sym k.0), h.2 ∙ sym k.2)
  one_savepoint a (Waits v) y new later h k = absurd h
  one_savepoint a Nothing y new later h k = absurd h
  one_savepoint a (Done x) (Waits w) new later h k = absurd k
  one_savepoint a (Done x) Nothing new later h k = absurd k
  one_savepoint a (Refused e) (Waits w) new later h k = absurd k
  one_savepoint a (Refused e) Nothing new later h k = absurd k

  -- no call that undoes is refused before its locks, or asks for one
  no_early : (x c : Call) → ((f : Fault) → RefusesEarly g x f → ⊥) → c ≡ x → (f : Fault) → RefusesEarly g c f → ⊥
  no_early x c none e f h = none f (subst (λ (c : Call). RefusesEarly g c f) e h)

  no_asking : (x c : Call) → (MayAsk g x → ⊥) → c ≡ x → MayAsk g c → ⊥
  no_asking x c none e h = none (subst (MayAsk g) e h)

  -- a prepare
  one_refused : (a : SessionTxn) (global : List ℕ) (e f : Fault) → RefusesPrepare g.version s a global e → RefusesPrepare g.version s a global f → e ≡ f
  one_refused a global e f (inl h) (inl k) = h.0 ∙ sym k.0
  one_refused a global e f (inl h) (inr (inl k)) = absurd (h.1 k.1)
  one_refused a global e f (inl h) (inr (inr k)) = absurd (h.1 k.1)
  one_refused a global e f (inr (inl h)) (inl k) = absurd (k.1 h.1)
  one_refused a global e f (inr (inl h)) (inr (inl k)) = h.0 ∙ sym k.0
  one_refused a global e f (inr (inl h)) (inr (inr k)) = absurd (h.2 k.2)
  one_refused a global e f (inr (inr h)) (inl k) = absurd (k.1 h.1)
  one_refused a global e f (inr (inr h)) (inr (inl k)) = absurd (k.2 h.2)
  one_refused a global e f (inr (inr h)) (inr (inr k)) = h.0 ∙ sym k.0

  not_refused : (a : SessionTxn) (global : List ℕ) (f : Fault) → IsGlobalId g.version global → IsUnused s.sessions global → MayPrepare s a global → RefusesPrepare g.version s a global f → ⊥
  not_refused a global f good unused may (inl h) = h.1 good
  not_refused a global f good unused may (inr (inl h)) = h.2 unused
  not_refused a global f good unused may (inr (inr h)) = h.3 may

  one_prepare : (a : SessionTxn) (global : List ℕ) (x y : Step) (new later : State) → PrepareStep g.version s a global x new → PrepareStep g.version s a global y later → AreOne x y new later
  one_prepare a global (Waits v) (Waits w) new later h k = (ap Waits (h.3 ∙ sym k.3), h.4 ∙ sym k.4)
  one_prepare a global (Waits v) (Refused f) new later h k = absurd (not_refused a global f h.0 h.1 h.2 k.0)
  one_prepare a global (Refused f) (Waits w) new later h k = absurd (not_refused a global f k.0 k.1 k.2 h.0)
  one_prepare a global (Refused e) (Refused f) new later h k = (ap Refused (one_refused a global e f h.0 k.0), h.1 ∙ sym k.1)
  one_prepare a global (Done x) y new later h k = absurd h
  one_prepare a global Nothing y new later h k = absurd h
  one_prepare a global (Waits v) (Done y) new later h k = absurd k
  one_prepare a global (Waits v) Nothing new later h k = absurd k
  one_prepare a global (Refused f) (Done y) new later h k = absurd k
  one_prepare a global (Refused f) Nothing new later h k = absurd k

  one_open : (a : SessionTxn) (c : Call) (x y : Step) (new later : State) → Comparable x y → OpenStep g s a c x new → OpenStep g s a c y later → AreOne x y new later
  one_open a c x y new later both (inl h) (inl k) =
      (h.2 ∙ ap Refused (one_fails (early_tests g c) h.0 k.0 (early_fails g c h.0 h.1) (early_fails g c k.0 k.1)) ∙ sym k.2, h.3 ∙ sym k.3)
  one_open a c x y new later both (inl h) (inr (inl k)) = absurd (none_fails (early_tests g c) h.0 (early_fails g c h.0 h.1) (may_pass g c k.0))
  one_open a c x y new later both (inl h) (inr (inr (inl k))) = absurd (no_commit_early c h.0 k.0 h.1)
  one_open a c x y new later both (inl h) (inr (inr (inr (inl k)))) = absurd (no_early call.Savepoint c (λ f x. x) k.0 h.0 h.1)
  one_open a c x y new later both (inr (inl h)) (inl k) = absurd (none_fails (early_tests g c) k.0 (early_fails g c k.0 k.1) (may_pass g c h.0))
  one_open a c x y new later both (inr (inl h)) (inr (inl k)) = one_going g s a c x y new later both h.1 k.1
  one_open a c x y new later both (inr (inl h)) (inr (inr (inl k))) = absurd (no_commit_asks c k.0 h.0)
  one_open a c x y new later both (inr (inl h)) (inr (inr (inr (inl k)))) = absurd (no_asking call.Savepoint c (λ x. x) k.0 h.0)
  one_open a c x y new later both (inr (inr (inl h))) (inl k) = absurd (no_commit_early c k.0 h.0 k.1)
  one_open a c x y new later both (inr (inr (inl h))) (inr (inl k)) = absurd (no_commit_asks c h.0 k.0)
  one_open a c x y new later both (inr (inr (inl h))) (inr (inr (inl k))) = one_commit a x y new later h.1 k.1
  one_open a c x y new later both (inr (inr (inl h))) (inr (inr (inr (inl k)))) = let clash : call.Commit ≡ call.Savepoint = sym h.0 ∙ k.0 in absurd cc
  one_open a c x y new later both (inr (inr (inr (inl h)))) (inl k) = absurd (no_early call.Savepoint c (λ f x. x) h.0 k.0 k.1)
  one_open a c x y new later both (inr (inr (inr (inl h)))) (inr (inl k)) = absurd (no_asking call.Savepoint c (λ x. x) h.0 k.0)
  one_open a c x y new later both (inr (inr (inr (inl h)))) (inr (inr (inl k))) = let clash : call.Savepoint ≡ call.Commit = sym h.0 ∙ k.0 in absurd cc
  one_open a c x y new later both (inr (inr (inr (inl h)))) (inr (inr (inr (inl k)))) = one_savepoint a x y new later h.1 k.1
  one_open a c x y new later both (inl h) (inr (inr (inr (inr k)))) = absurd (no_early (call.Prepare k.0) c (λ f x. x) k.1 h.0 h.1)
  one_open a c x y new later both (inr (inl h)) (inr (inr (inr (inr k)))) = absurd (no_asking (call.Prepare k.0) c (λ x. x) k.1 h.0)
  one_open a c x y new later both (inr (inr (inl h))) (inr (inr (inr (inr k)))) = let clash : call.Commit ≡ call.Prepare k.0 = sym h.0 ∙ k.1 in absurd cc
  one_open a c x y new later both (inr (inr (inr (inl h)))) (inr (inr (inr (inr k)))) = let clash : call.Savepoint ≡ call.Prepare k.0 = sym h.0 ∙ k.1 in absurd cc
  one_open a c x y new later both (inr (inr (inr (inr h)))) (inl k) = absurd (no_early (call.Prepare h.0) c (λ f x. x) h.1 k.0 k.1)
  one_open a c x y new later both (inr (inr (inr (inr h)))) (inr (inl k)) = absurd (no_asking (call.Prepare h.0) c (λ x. x) h.1 k.0)
  one_open a c x y new later both (inr (inr (inr (inr h)))) (inr (inr (inl k))) = let clash : call.Prepare h.0 ≡ call.Commit = sym h.1 ∙ k.0 in absurd cc
  one_open a c x y new later both (inr (inr (inr (inr h)))) (inr (inr (inr (inl k)))) = let clash : call.Prepare h.0 ≡ call.Savepoint = sym h.1 ∙ k.0 in absurd cc
  one_open a c x y new later both (inr (inr (inr (inr h)))) (inr (inr (inr (inr k)))) =
      one_prepare a h.0 x y new later h.2 (subst (λ n. PrepareStep g.version s a n y later) (same_global k.0 h.0 (sym k.1 ∙ h.1)) k.2)
    where
      same_global : (m n : List ℕ) → call.Prepare m ≡ call.Prepare n → m ≡ n
      same_global m n e = cc

  -- ---- rollbacks

  one_back : (a : SessionTxn) (c : Call) (n : ℕ) (x y : Step) (new later : State) → c ≡ call.BackTo n → Compares c x y → BackToStep s a n x new → BackToStep s a n y later → AreOne x y new later
  one_back a c n (Done x) (Done y) new later e both h k =
      let same : x ≡ y = h.1 ∙ sym k.1 in (ap Done same, h.2 ∙ ap (λ (v : Answer). answered s a (call.BackTo n) v s.counts) same ∙ sym k.2)
  one_back a c n (Done x) (Refused f) new later e both h (inl k) = let less = h.0 in let late = k.1 in absurd (omega arith)
  one_back a c n (Done x) (Refused f) new later e both h (inr k) = one_interrupted g s (AreOne (Done x) (Refused f) new later) c (Done x) (Refused f) f a (To n) later both (ap rollback_of e) k.1 (inr refl)
  one_back a c n (Refused f) (Done y) new later e both (inl h) k = let less = k.0 in let late = h.1 in absurd (omega arith)
  one_back a c n (Refused f) (Done y) new later e both (inr h) k = one_interrupted g s (AreOne (Refused f) (Done y) new later) c (Refused f) (Done y) f a (To n) new both (ap rollback_of e) h.1 (inl refl)
  one_back a c n (Refused f) (Refused d) new later e both (inl h) (inl k) = (ap Refused (h.0 ∙ sym k.0), h.2 ∙ sym k.2)
  one_back a c n (Refused f) (Refused d) new later e both (inl h) (inr k) = let late = h.1 in let less = k.0 in absurd (omega arith)
  one_back a c n (Refused f) (Refused d) new later e both (inr h) k =
      one_interrupted g s (AreOne (Refused f) (Refused d) new later) c (Refused f) (Refused d) f a (To n) new both (ap rollback_of e) h.1 (inl refl)
  one_back a c n (Waits v) y new later e both h k = absurd h
  one_back a c n Nothing y new later e both h k = absurd h
  one_back a c n (Done x) (Waits w) new later e both h k = absurd k
  one_back a c n (Done x) Nothing new later e both h k = absurd k
  one_back a c n (Refused f) (Waits w) new later e both h k = absurd k
  one_back a c n (Refused f) Nothing new later e both h k = absurd k

  one_abort : (a : SessionTxn) (c : Call) (x y : Step) (new later : State) → c ≡ call.Abort → Compares c x y → AbortStep s a x new → AbortStep s a y later → AreOne x y new later
  one_abort a c (Done x) (Done y) new later e both h k = (ap Done (h.0 ∙ sym k.0), h.1 ∙ sym k.1)
  one_abort a c (Done x) (Refused f) new later e both h k = one_interrupted g s (AreOne (Done x) (Refused f) new later) c (Done x) (Refused f) f a Whole later both (ap rollback_of e) k (inr refl)
  one_abort a c (Refused f) y new later e both h k = one_interrupted g s (AreOne (Refused f) y new later) c (Refused f) y f a Whole new both (ap rollback_of e) h (inl refl)
  one_abort a c (Waits v) y new later e both h k = absurd h
  one_abort a c Nothing y new later e both h k = absurd h
  one_abort a c (Done x) (Waits w) new later e both h k = absurd k
  one_abort a c (Done x) Nothing new later e both h k = absurd k

  no_open_resolve : (a : SessionTxn) (c : Call) (global : List ℕ) (asked : Outcome) (step : Step) (new : State) → c ≡ call.Resolve global asked → OpenStep g s a c step new → ⊥
  no_open_resolve a c global asked step new e (inl h) = no_early (call.Resolve global asked) c (λ f x. x) e h.0 h.1
  no_open_resolve a c global asked step new e (inr (inl h)) = no_asking (call.Resolve global asked) c (λ x. x) e h.0
  no_open_resolve a c global asked step new e (inr (inr (inl h))) = let clash : call.Resolve global asked ≡ call.Commit = sym e ∙ h.0 in cc
  no_open_resolve a c global asked step new e (inr (inr (inr (inl h)))) = let clash : call.Resolve global asked ≡ call.Savepoint = sym e ∙ h.0 in cc
  no_open_resolve a c global asked step new e (inr (inr (inr (inr h)))) = let clash : call.Resolve global asked ≡ call.Prepare h.0 = sym e ∙ h.1 in cc

  -- no call that asks for a rollback goes as others do
  no_open_rollback : (a : SessionTxn) (c d : Call) (r : Rollback) (step : Step) (new : State) → rollback_of d ≡ Some r → c ≡ d → OpenStep g s a c step new → ⊥
  no_open_rollback a c (call.BackTo n) r step new is e (inl h) = no_early (call.BackTo n) c (λ f x. x) e h.0 h.1
  no_open_rollback a c (call.BackTo n) r step new is e (inr (inl h)) = no_asking (call.BackTo n) c (λ x. x) e h.0
  no_open_rollback a c (call.BackTo n) r step new is e (inr (inr (inl h))) = let clash : call.BackTo n ≡ call.Commit = sym e ∙ h.0 in cc
  no_open_rollback a c (call.BackTo n) r step new is e (inr (inr (inr (inl h)))) = let clash : call.BackTo n ≡ call.Savepoint = sym e ∙ h.0 in cc
  no_open_rollback a c (call.BackTo n) r step new is e (inr (inr (inr (inr h)))) = let clash : call.BackTo n ≡ call.Prepare h.0 = sym e ∙ h.1 in cc
  no_open_rollback a c call.Abort r step new is e (inl h) = no_early call.Abort c (λ f x. x) e h.0 h.1
  no_open_rollback a c call.Abort r step new is e (inr (inl h)) = no_asking call.Abort c (λ x. x) e h.0
  no_open_rollback a c call.Abort r step new is e (inr (inr (inl h))) = let clash : call.Abort ≡ call.Commit = sym e ∙ h.0 in cc
  no_open_rollback a c call.Abort r step new is e (inr (inr (inr (inl h)))) = let clash : call.Abort ≡ call.Savepoint = sym e ∙ h.0 in cc
  no_open_rollback a c call.Abort r step new is e (inr (inr (inr (inr h)))) = let clash : call.Abort ≡ call.Prepare h.0 = sym e ∙ h.1 in cc
  no_open_rollback a c (call.Resolve global asked) r step new is e h = no_open_resolve a c global asked step new e h
  no_open_rollback a c _ r step new is e h = absurd cc

  same_index : (n m : ℕ) → call.BackTo n ≡ call.BackTo m → m ≡ n
  same_index n m e = cc

  one_inner : (a : SessionTxn) (c : Call) (x y : Step) (new later : State) → Compares c x y → InnerStep g s a c x new → InnerStep g s a c y later → AreOne x y new later
  one_inner a c x y new later both (inl h) (inl k) = (h.2 ∙ sym k.2, h.3 ∙ sym k.3)
  one_inner a c x y new later both (inl h) (inr (inl k)) = absurd (h.1 (inl k.0))
  one_inner a c x y new later both (inl h) (inr (inr (inl k))) = absurd (h.1 k.2)
  one_inner a c x y new later both (inl h) (inr (inr (inr k))) = absurd (h.1 (inr (inl k.0)))
  one_inner a c x y new later both (inr (inl h)) (inl k) = absurd (k.1 (inl h.0))
  one_inner a c x y new later both (inr (inl h)) (inr (inl k)) = one_open a c x y new later both.0 h.1 k.1
  one_inner a c x y new later both (inr (inl h)) (inr (inr (inl k))) = absurd (no_open_rollback a c (call.BackTo k.0) (To k.0) x new refl k.1 h.1)
  one_inner a c x y new later both (inr (inl h)) (inr (inr (inr k))) = absurd (no_open_rollback a c call.Abort Whole x new refl k.0 h.1)
  one_inner a c x y new later both (inr (inr (inl h))) (inl k) = absurd (k.1 h.2)
  one_inner a c x y new later both (inr (inr (inl h))) (inr (inl k)) = absurd (no_open_rollback a c (call.BackTo h.0) (To h.0) y later refl h.1 k.1)
  one_inner a c x y new later both (inr (inr (inl h))) (inr (inr (inl k))) =
      one_back a c h.0 x y new later h.1 both h.3 (subst (λ n. BackToStep s a n y later) (same_index h.0 k.0 (sym h.1 ∙ k.1)) k.3)
  one_inner a c x y new later both (inr (inr (inl h))) (inr (inr (inr k))) = let clash : call.BackTo h.0 ≡ call.Abort = sym h.1 ∙ k.0 in absurd cc
  one_inner a c x y new later both (inr (inr (inr h))) (inl k) = absurd (k.1 (inr (inl h.0)))
  one_inner a c x y new later both (inr (inr (inr h))) (inr (inl k)) = absurd (no_open_rollback a c call.Abort Whole y later refl h.0 k.1)
  one_inner a c x y new later both (inr (inr (inr h))) (inr (inr (inl k))) = let clash : call.Abort ≡ call.BackTo k.0 = sym h.0 ∙ k.1 in absurd cc
  one_inner a c x y new later both (inr (inr (inr h))) (inr (inr (inr k))) = one_abort a c x y new later h.0 both h.1 k.1

module _ (g : Geometry) (o : Opening) (found : List LogRecord) (es : List Entry) (s : State) (k : IsStateAfter o found es s) (session : ℕ) where
  same_txn : (n : ℕ) (a b : SessionTxn) → IsOfSession s n a → IsOfSession s n b → a ≡ b
  same_txn n a b x y =
      one_member k.sessions a b x.0.0 y.0.0 (one_txn s.sessions a b x.0.1 y.0.1 (x.1 ∙ sym y.1))

  -- a session in no transaction, or in one that is prepared
  abbrev RefusesSeat : Fault → Type 0
  RefusesSeat f = (HasNoTxn s session × (f ≡ fault.NoTransaction)) ⊎ (HasPrepared s session × (f ≡ fault.IsPrepared))

  none_prepared : HasNoTxn s session → HasPrepared s session → ⊥
  none_prepared none prepared = let clash : false ≡ true = sym (ap (λ (p : SessionState). p.prepared) none) ∙ prepared in cc

  one_seat : (e f : Fault) → RefusesSeat e → RefusesSeat f → e ≡ f
  one_seat e f (inl h) (inl j) = h.1 ∙ sym j.1
  one_seat e f (inl h) (inr j) = absurd (none_prepared h.0 j.0)
  one_seat e f (inr h) (inl j) = absurd (none_prepared j.0 h.0)
  one_seat e f (inr h) (inr j) = h.1 ∙ sym j.1

  -- it is not seated then
  not_seated : (f : Fault) (a : SessionTxn) → RefusesSeat f → IsOfSession s session a → ⊥
  not_seated f a (inl h) of = in_one s session a of h.0
  not_seated f a (inr h) of = not_prepared s session a of h.0

  -- a call of a manager that runs and of a session that does not wait
  abbrev Own : Call → Step → State → Type 0
  Own c step new =
      ((c ≡ call.Begin) × BeginStep s session step new) ⊎ (NeedsTxn c × ((f : Fault) × RefusesSeat f × (step ≡ Refused f)) × (new ≡ s))
      ⊎ ((a : SessionTxn) × IsOfSession s session a × InnerStep g s a c step new) ⊎ OutsideStep s session c step new

  abbrev Levels : Call → Step → State → Type 0
  Levels c step new =
      (IsTrue s.failed × (step ≡ Refused fault.Failed) × (new ≡ s))
      ⊎ ((s.failed ≡ false) × (DoesNotWait s session → ⊥) × (step ≡ Refused fault.Busy) × (new ≡ s))
      ⊎ ((s.failed ≡ false) × DoesNotWait s session × Own c step new)

  levels : (c : Call) (step : Step) (new : State) → step ≢ Refused fault.Memory → CallStep g s session c step new → Levels c step new
  levels c step new some (inl h) = absurd (some h.0)
  levels c step new some (inr (inl h)) = inl h
  levels c step new some (inr (inr (inl h))) = inr (inl h)
  levels c step new some (inr (inr (inr (inl h)))) = inr (inr (h.0, h.1, inl (h.2, h.3)))
  levels c step new some (inr (inr (inr (inr (inl h))))) = inr (inr (h.0, h.1, inr (inl (h.2, (fault.NoTransaction, inl (h.3, refl), h.4), h.5))))
  levels c step new some (inr (inr (inr (inr (inr (inr (inl h))))))) = inr (inr (h.0, h.1, inr (inl (h.2, (fault.IsPrepared, inr (h.3, refl), h.4), h.5))))
  levels c step new some (inr (inr (inr (inr (inr (inr (inr h))))))) = inr (inr (h.0, h.1, inr (inr (inr h.2))))
  levels c step new some (inr (inr (inr (inr (inr (inl h)))))) = inr (inr (h.0, h.1, inr (inr (inl h.2))))

  no_begin_inside : (c : Call) (a : SessionTxn) (step : Step) (new : State) → c ≡ call.Begin → InnerStep g s a c step new → ⊥
  no_begin_inside c a step new e (inl h) = subst NeedsTxn e h.0
  no_begin_inside c a step new e (inr (inl (whole, inl h))) = absurd (subst (λ (c : Call). RefusesEarly g c h.0) e h.1)
  no_begin_inside c a step new e (inr (inl (whole, inr (inl h)))) = absurd (subst (MayAsk g) e h.0)
  no_begin_inside c a step new e (inr (inl (whole, inr (inr (inl h))))) = let clash : call.Begin ≡ call.Commit = sym e ∙ h.0 in cc
  no_begin_inside c a step new e (inr (inl (whole, inr (inr (inr (inl h)))))) = let clash : call.Begin ≡ call.Savepoint = sym e ∙ h.0 in cc
  no_begin_inside c a step new e (inr (inl (whole, inr (inr (inr (inr h)))))) = let clash : call.Begin ≡ call.Prepare h.0 = sym e ∙ h.1 in cc
  no_begin_inside c a step new e (inr (inr (inl h))) = let clash : call.Begin ≡ call.BackTo h.0 = sym e ∙ h.1 in cc
  no_begin_inside c a step new e (inr (inr (inr h))) = let clash : call.Begin ≡ call.Abort = sym e ∙ h.0 in cc

  no_listing_inside : (c : Call) (a : SessionTxn) (step : Step) (new : State) → c ≡ call.InDoubt → InnerStep g s a c step new → ⊥
  no_listing_inside c a step new e (inl h) = subst NeedsTxn e h.0
  no_listing_inside c a step new e (inr (inl (whole, inl h))) = absurd (subst (λ (c : Call). RefusesEarly g c h.0) e h.1)
  no_listing_inside c a step new e (inr (inl (whole, inr (inl h)))) = absurd (subst (MayAsk g) e h.0)
  no_listing_inside c a step new e (inr (inl (whole, inr (inr (inl h))))) = let clash : call.InDoubt ≡ call.Commit = sym e ∙ h.0 in cc
  no_listing_inside c a step new e (inr (inl (whole, inr (inr (inr (inl h)))))) = let clash : call.InDoubt ≡ call.Savepoint = sym e ∙ h.0 in cc
  no_listing_inside c a step new e (inr (inl (whole, inr (inr (inr (inr h)))))) = let clash : call.InDoubt ≡ call.Prepare h.0 = sym e ∙ h.1 in cc
  no_listing_inside c a step new e (inr (inr (inl h))) = let clash : call.InDoubt ≡ call.BackTo h.0 = sym e ∙ h.1 in cc
  no_listing_inside c a step new e (inr (inr (inr h))) = let clash : call.InDoubt ≡ call.Abort = sym e ∙ h.0 in cc

  one_listing : (x y : Step) (new later : State) → InDoubtStep s x new → InDoubtStep s y later → AreOne x y new later
  one_listing (Done x) (Done y) new later h j = (ap Done (h.0 ∙ sym j.0), h.1 ∙ sym j.1)
  one_listing (Done x) (Waits w) new later h j = absurd j
  one_listing (Done x) (Refused f) new later h j = absurd j
  one_listing (Done x) Nothing new later h j = absurd j
  one_listing (Waits w) y new later h j = absurd h
  one_listing (Refused f) y new later h j = absurd h
  one_listing Nothing y new later h j = absurd h

  no_begin_outside : (c : Call) (step : Step) (new : State) → c ≡ call.Begin → OutsideStep s session c step new → ⊥
  no_begin_outside c step new e (inl h) = let clash : call.Begin ≡ call.InDoubt = sym e ∙ h.0 in cc
  no_begin_outside c step new e (inr h) = let clash : call.Begin ≡ call.Resolve h.0 h.1 = sym e ∙ h.2 in cc

  no_outside_inside : (c : Call) (a : SessionTxn) (x y : Step) (new later : State) → InnerStep g s a c x new → OutsideStep s session c y later → ⊥
  no_outside_inside c a x y new later inside (inl h) = no_listing_inside c a x new h.0 inside
  no_outside_inside c a x y new later inside (inr h) = no_txn_resolves g s new session h.0 h.1 a x (subst (λ (d : Call). InnerStep g s a d x new) h.2 inside)

  one_outside : (c : Call) (x y : Step) (new later : State) → Compares c x y → OutsideStep s session c x new → OutsideStep s session c y later → AreOne x y new later
  one_outside c x y new later both (inl h) (inl j) = one_listing x y new later h.1 j.1
  one_outside c x y new later both (inl h) (inr j) = let clash : call.InDoubt ≡ call.Resolve j.0 j.1 = sym h.0 ∙ j.2 in absurd cc
  one_outside c x y new later both (inr h) (inl j) = let clash : call.InDoubt ≡ call.Resolve h.0 h.1 = sym j.0 ∙ h.2 in absurd cc
  one_outside c x y new later both (inr h) (inr j) =
      one_resolve g o found es s k session h.0 h.1 x y new later (subst (λ (d : Call). Compares d x y) h.2 both) h.3
      (subst (λ (name : List ℕ). ResolveStep s session name h.1 y later) (same_name (sym j.2 ∙ h.2)) (subst (λ (asked : Outcome). ResolveStep s session j.0 asked y later) (same_asked (sym j.2 ∙ h.2)) j.3))
    where
      same_name : call.Resolve j.0 j.1 ≡ call.Resolve h.0 h.1 → j.0 ≡ h.0
      same_name e = cc

      same_asked : call.Resolve j.0 j.1 ≡ call.Resolve h.0 h.1 → j.1 ≡ h.1
      same_asked e = cc

  one_own : (c : Call) (x y : Step) (new later : State) → Compares c x y → Own c x new → Own c y later → AreOne x y new later
  one_own c x y new later both (inl h) (inl j) = one_begin s session x y new later h.1 j.1
  one_own c x y new later both (inl h) (inr (inl j)) = absurd (subst NeedsTxn h.0 j.0)
  one_own c x y new later both (inl h) (inr (inr (inl j))) = absurd (no_begin_inside c j.0 y later h.0 j.2)
  one_own c x y new later both (inl h) (inr (inr (inr j))) = absurd (no_begin_outside c y later h.0 j)
  one_own c x y new later both (inr (inl h)) (inl j) = absurd (subst NeedsTxn j.0 h.0)
  one_own c x y new later both (inr (inl h)) (inr (inl j)) = (h.1.2 ∙ ap Refused (one_seat h.1.0 j.1.0 h.1.1 j.1.1) ∙ sym j.1.2, h.2 ∙ sym j.2)
  one_own c x y new later both (inr (inl h)) (inr (inr (inl j))) = absurd (not_seated h.1.0 j.0 h.1.1 j.1)
  one_own c x y new later both (inr (inl h)) (inr (inr (inr j))) = absurd (not_outside s session c y later h.0 j)
  one_own c x y new later both (inr (inr (inl h))) (inl j) = absurd (no_begin_inside c h.0 x new j.0 h.2)
  one_own c x y new later both (inr (inr (inl h))) (inr (inl j)) = absurd (not_seated j.1.0 h.0 j.1.1 h.1)
  one_own c x y new later both (inr (inr (inl h))) (inr (inr (inr j))) = absurd (no_outside_inside c h.0 x y new later h.2 j)
  one_own c x y new later both (inr (inr (inr h))) (inl j) = absurd (no_begin_outside c x new j.0 h)
  one_own c x y new later both (inr (inr (inr h))) (inr (inl j)) = absurd (not_outside s session c x new j.0 h)
  one_own c x y new later both (inr (inr (inr h))) (inr (inr (inl j))) = absurd (no_outside_inside c j.0 y x later new j.2 h)
  one_own c x y new later both (inr (inr (inr h))) (inr (inr (inr j))) = one_outside c x y new later both h j
  one_own c x y new later both (inr (inr (inl h))) (inr (inr (inl j))) =
      one_inner g s h.0 c x y new later both h.2 (subst (λ (a : SessionTxn). InnerStep g s a c y later) (same_txn session j.0 h.0 j.1 h.1) j.2)

  one_level : (c : Call) (x y : Step) (new later : State) → Compares c x y → Levels c x new → Levels c y later → AreOne x y new later
  one_level c x y new later both (inl h) (inl j) = (h.1 ∙ sym j.1, h.2 ∙ sym j.2)
  one_level c x y new later both (inl h) (inr (inl j)) = absurd (both_ways s.failed h.0 j.0)
  one_level c x y new later both (inl h) (inr (inr j)) = absurd (both_ways s.failed h.0 j.0)
  one_level c x y new later both (inr (inl h)) (inl j) = absurd (both_ways s.failed j.0 h.0)
  one_level c x y new later both (inr (inl h)) (inr (inl j)) = (h.2 ∙ sym j.2, h.3 ∙ sym j.3)
  one_level c x y new later both (inr (inl h)) (inr (inr j)) = absurd (h.1 j.1)
  one_level c x y new later both (inr (inr h)) (inl j) = absurd (both_ways s.failed j.0 h.0)
  one_level c x y new later both (inr (inr h)) (inr (inl j)) = absurd (j.1 h.1)
  one_level c x y new later both (inr (inr h)) (inr (inr j)) = one_own c x y new later both h.2 j.2

  pub one_call : (c : Call) (x y : Step) (new later : State) → Compares c x y → CallStep g s session c x new → CallStep g s session c y later → AreOne x y new later
  one_call c x y new later both h j =
      one_level c x y new later both (levels c x new (left_no_memory x y both.0) h) (levels c y later (right_no_memory x y both.0) j)

  -- ---- resumes

  module _ (w : Waiting) where
    -- going on with the call that waits for a lock
    abbrev LockGoes : SessionTxn → Granule → Step → State → Type 0
    LockGoes a at step new =
        ((is_waiting a.txn s.locks.requests ≡ true) × (step ≡ Waits (Lock at)) × (new ≡ s))
        ⊎ ((is_waiting a.txn s.locks.requests ≡ false) × CallGoesOn g (wait_refused s w.session) a w.call step new)

    one_lock : (a : SessionTxn) (at : Granule) (x y : Step) (new later : State) → Comparable x y → LockGoes a at x new → LockGoes a at y later → AreOne x y new later
    one_lock a at x y new later both (inl h) (inl j) = (h.1 ∙ sym j.1, h.2 ∙ sym j.2)
    one_lock a at x y new later both (inl h) (inr j) = absurd (both_ways (is_waiting a.txn s.locks.requests) h.0 j.0)
    one_lock a at x y new later both (inr h) (inl j) = absurd (both_ways (is_waiting a.txn s.locks.requests) j.0 h.0)
    one_lock a at x y new later both (inr h) (inr j) = one_going g (wait_refused s w.session) a w.call x y new later both h.1 j.1

    -- what is answered is durable
    abbrev Answered : ℕ → Step → State → Type 0
    Answered n step new =
        ((n ≤ s.durable) × (step ≡ Done Prepared)
        × ((t : ℕ) × (global : List ℕ) × IsPreparing s.sessions w.session t global × (w.call ≡ call.Prepare global) × (new ≡ prepare_ended s w.session t global)))
        ⊎ ((n ≤ s.durable) × (step ≡ Done Resolved)
        × ((r : ResolvedTxn) × HasEnded s.sessions r × (w.call ≡ call.Resolve r.global r.outcome) × (new ≡ resolve_ended s w.session r)))

    answered_durable : (n : ℕ) (step : Step) (new : State) → Answered n step new → n ≤ s.durable
    answered_durable n step new (inl h) = h.0
    answered_durable n step new (inr h) = h.0

    same_resolved : (r q : ResolvedTxn) → IsAmong r s.sessions.resolving → IsAmong q s.sessions.resolving → call.Resolve r.global r.outcome ≡ call.Resolve q.global q.outcome → r ≡ q
    same_resolved r q m n e =
        one_resolved r q s.sessions.resolving k.sessions.single m n
        (one_global o es s.sessions k.sessions.agree r.txn q.txn q.global (subst (λ (name : List ℕ). IsAmong (r.txn, name) (in_use s.sessions)) (named e) (used_resolved s.sessions r m)) (used_resolved s.sessions q n))
      where
        named : call.Resolve r.global r.outcome ≡ call.Resolve q.global q.outcome → r.global ≡ q.global
        named e = cc

    one_wait : (wait : Wait) (x y : Step) (new later : State) → Comparable x y → ResumesWait g s w wait x new → ResumesWait g s w wait y later → AreOne x y new later
    one_wait (Durable n) x y new later both (inl h) (inl j) = (h.1 ∙ sym j.1, h.2 ∙ sym j.2)
    one_wait (Durable n) x y new later both (inl h) (inr j) = let less = h.0 in let le = answered_durable n y later j in absurd (omega (arith, less, le))
    one_wait (Durable n) x y new later both (inr h) (inl j) = let less = j.0 in let le = answered_durable n x new h in absurd (omega (arith, less, le))
    one_wait (Durable n) x y new later both (inr (inl h)) (inr (inr j)) = let clash : call.Prepare h.2.1 ≡ call.Resolve j.2.0.global j.2.0.outcome = sym h.2.3 ∙ j.2.2 in absurd cc
    one_wait (Durable n) x y new later both (inr (inr h)) (inr (inl j)) = let clash : call.Prepare j.2.1 ≡ call.Resolve h.2.0.global h.2.0.outcome = sym j.2.3 ∙ h.2.2 in absurd cc
    one_wait (Durable n) x y new later both (inr (inl h)) (inr (inl j)) =
        (h.1 ∙ sym j.1, h.2.4 ∙ ap (λ (t : ℕ). prepare_ended s w.session t h.2.1) (same_doubt (sym h.2.2.1 ∙ j.2.2.1)) ∙ ap (prepare_ended s w.session j.2.0) (same_name (sym h.2.3 ∙ j.2.3)) ∙ sym j.2.4)
      where
        same_doubt : in_prepared h.2.0 ≡ in_prepared j.2.0 → h.2.0 ≡ j.2.0
        same_doubt e = ap (λ (p : SessionState). p.txn) e

        same_name : call.Prepare h.2.1 ≡ call.Prepare j.2.1 → h.2.1 ≡ j.2.1
        same_name e = cc
    one_wait (Durable n) x y new later both (inr (inr h)) (inr (inr j)) =
        (h.1 ∙ sym j.1, h.2.3 ∙ ap (resolve_ended s w.session) (same_resolved h.2.0 j.2.0 h.2.1.0 j.2.1.0 (sym h.2.2 ∙ j.2.2)) ∙ sym j.2.3)
    one_wait (Lock at) x y new later both h j =
        one_lock h.0 at x y new later both h.2 (subst (λ (a : SessionTxn). LockGoes a at y later) (same_txn w.session j.0 h.0 j.1 h.1) j.2)

    one_resumed : (x y : Step) (new later : State) → Comparable x y → ResumesCall g s w x new → ResumesCall g s w y later → AreOne x y new later
    one_resumed x y new later both (inl h) (inl j) = (h.1 ∙ sym j.1, h.2 ∙ sym j.2)
    one_resumed x y new later both (inl h) (inr j) = absurd (both_ways s.failed h.0 j.0)
    one_resumed x y new later both (inr h) (inl j) = absurd (both_ways s.failed j.0 h.0)
    one_resumed x y new later both (inr h) (inr j) = one_wait w.wait x y new later both h.1 j.1

  pub one_resume : (x y : Step) (new later : State) → Comparable x y → ResumeStep g s session x new → ResumeStep g s session y later → AreOne x y new later
  one_resume x y new later both (inl h) (inl j) = (h.1 ∙ sym j.1, h.2 ∙ sym j.2)
  one_resume x y new later both (inl h) (inr j) = absurd (h.0 j.0 j.1 j.2)
  one_resume x y new later both (inr h) (inl j) = absurd (j.0 h.0 h.1 h.2)
  one_resume x y new later both (inr h) (inr j) =
      one_resumed h.0 x y new later both h.3 (subst (λ (w : Waiting). ResumesCall g s w y later) (k.waits.once j.0 h.0 j.1 h.1 (j.2 ∙ sym h.2)) j.3)
