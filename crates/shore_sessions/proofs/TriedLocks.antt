-- A lock that is had or refused at once, as rounds of none.
use Rattle.std.proofs.Common.{◌≡◌, inl, ℕ, [], Result, Ok, Err, refl, sym, ap, subst, ◌∙◌}
use Rattle.shore_types.specs.declared.faults.Fault.{Fault}
use Rattle.shore_types.specs.declared.locking.Granule.{Granule}
use Rattle.shore_model.specs.declared.calls.Call.{Call}
use Rattle.shore_path.specs.Walks.{Outcome, acquired}
use Rattle.shore_path.specs.declared.answers.Acquired.{Acquired}
use Rattle.shore_path.specs.declared.answers.Acquired.TheVariants as acquire
use Rattle.shore_path.specs.declared.answers.OnConflict.TheVariants as conflict
use Rattle.laws_locks.specs.CallLocks.{Asked}
use Rattle.laws_lives.specs.Sessions.{SessionTxn}
use Rattle.laws_calls.proofs.AcquireAnswers.{try_never_waits}
use Rattle.laws_calls.specs.CallSteps.{behind_lock, lock_outcome, on_conflict_of, with_requests}
use Rattle.laws_calls.specs.LockRounds.{LocksTo}
use Rattle.laws_calls.specs.States.{State}
use Rattle.shore_sessions.specs.Controls.{locks_in}
use Rattle.shore_sessions.specs.Standing.{HasControl}
use Rattle.shore_sessions.specs.declared.control.Control.{Control}

-- a lock that is had or refused at once
pub had_at_once : (s : State) (a : SessionTxn) (c : Call) (lock : Asked) (answer : Result Acquired Fault) → ((at : Granule) → answer ≡ Ok (acquire.Waiting at) → ⊥)
    → answer ≡ (lock_outcome s a c lock).answer → LocksTo s a c lock answer (behind_lock s a c lock)
had_at_once s a c lock (Ok acquire.Done) never is = record { rounds = []; later = s; go = refl; ends = (sym is, refl) }
had_at_once s a c lock (Ok (acquire.Waiting at)) never is = absurd (never at refl)
had_at_once s a c lock (Err f) never is = record { rounds = []; later = s; go = refl; ends = inl (sym is, refl) }

-- .. as one that may not wait is
pub tried_to : (s : State) (a : SessionTxn) (c : Call) (lock : Asked) → on_conflict_of c ≡ conflict.Refuse → (answer : Result Acquired Fault) → answer ≡ (lock_outcome s a c lock).answer
    → LocksTo s a c lock answer (behind_lock s a c lock)
tried_to s a c lock refuses answer is =
    had_at_once s a c lock answer
    (λ at waits. try_never_waits s.locks a.txn lock.granule lock.mode at (ap (λ on. (acquired on s.locks a.txn lock.granule lock.mode).answer) (sym refuses) ∙ sym is ∙ waits)) is

-- .. and as one that may wait can be
pub waits_for_none : (control new : Control) (s : State) (a : SessionTxn) (c : Call) (lock : Asked) (t : ℕ) (answer : Result Acquired Fault) → HasControl control s → a.txn ≡ t
    → on_conflict_of c ≡ conflict.Wait → ((at : Granule) → answer ≡ Ok (acquire.Waiting at) → ⊥) → answer ≡ (acquired conflict.Wait (locks_in control) t lock.granule lock.mode).answer
    → HasControl new (with_requests s (acquired conflict.Wait s.locks t lock.granule lock.mode).requests)
    → (after : State) × LocksTo s a c lock answer after × HasControl new after
waits_for_none control new s a c lock t answer was number may_wait never is stands =
    let of_state : acquired conflict.Wait s.locks t lock.granule lock.mode ≡ lock_outcome s a c lock =
    ap (λ on. acquired on s.locks t lock.granule lock.mode) (sym may_wait) ∙ ap (λ u. acquired (on_conflict_of c) s.locks u lock.granule lock.mode) (sym number) in
    let outcome : acquired conflict.Wait (locks_in control) t lock.granule lock.mode ≡ lock_outcome s a c lock =
    ap (λ table. acquired conflict.Wait table t lock.granule lock.mode) (sym was.locks) ∙ of_state in (
      behind_lock s a c lock,
      had_at_once s a c lock answer never (is ∙ ap (λ (o : Outcome). o.answer) outcome),
      subst (λ (o : Outcome). HasControl new (with_requests s o.requests)) of_state stands,
    )
