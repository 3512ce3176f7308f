-- Savepoints and rollbacks as calls of a session: what each comes to, and what one leaves that is interrupted. The steps that were made are kept, and the
-- same call goes on with what is left.
use Rattle.std.specs.Prelude.{◌≡◌, ◌≢◌, ◌⊎◌, ◌<◌, ◌≤◌, ◌++◌, ℕ, List, [], Some, None, length}
use Rattle.shore_types.specs.Images.{Image}
use Rattle.shore_types.specs.declared.faults.Fault.{Fault}
use Rattle.shore_types.specs.declared.faults.Fault.TheVariants as fault
use Rattle.shore_types.specs.declared.ids.Rid.{Rid}
use Rattle.shore_types.specs.declared.layout.TheConstants.{MAX_SAVEPOINTS}
use Rattle.shore_model.specs.declared.calls.Answer.TheVariants.{Saved, WentBack}
use Rattle.shore_model.specs.declared.calls.Call.{Call}
use Rattle.shore_model.specs.declared.calls.Call.TheVariants as call
use Rattle.laws_lives.specs.Logged.{and_compensations}
use Rattle.laws_lives.specs.Sessions.{SessionTxn, with_undo}
use Rattle.laws_lives.specs.UndoLists.{UndoList, least_kept, rolled_back, undo_rolled}
use Rattle.shore_model.specs.declared.rollbacks.Rollback.{Rollback}
use Rattle.shore_model.specs.declared.rollbacks.Rollback.TheVariants.{To}
use Rattle.shore_model.specs.declared.step.Step.{Step}
use Rattle.shore_model.specs.declared.step.Step.TheVariants.{Done, Nothing, Refused, Waits}
use Rattle.laws_calls.specs.StateChanges.{IsPageFault, after_refusal, answered}
use Rattle.laws_calls.specs.States.{State}

-- ---- which calls a transaction takes

-- One whose rollback has begun takes an abort, or the same way back again, and nothing else.
abbrev pub TakesCall : UndoList → Call → Type 0
TakesCall undo c = (undo.rolling ≡ None) ⊎ ((c ≡ call.Abort) ⊎ ((n : ℕ) × (undo.rolling ≡ Some (To n)) × (c ≡ call.BackTo n)))

-- ---- what a rollback leaves

-- these images are put back, from the last on, each with its Compensation; the others are left to be put back, and with them the savepoints among them
abbrev pub put_back : State → SessionTxn → List (Rid × Image) → List (Rid × Image) → Rollback → State
put_back s a kept undone r = record s {
  sessions = record s.sessions {
    records = rolled_back s.sessions.records undone;
    active = with_undo a.txn (undo_rolled a.undo kept r) s.sessions.active;
  };
  log = and_compensations a.txn s.log undone;
}

-- the transaction as it is then
abbrev pub rolled : SessionTxn → List (Rid × Image) → Rollback → SessionTxn
rolled a kept r = record { session = a.session; txn = a.txn; undo = undo_rolled a.undo kept r }

-- a rollback has put back the newest of its images, so far, or none
abbrev pub IsUnwound : State → SessionTxn → Rollback → State → Type 0
IsUnwound s a r new =
    (new ≡ s)
    ⊎ ((kept : List (Rid × Image)) × (undone : List (Rid × Image)) × (undone ≢ []) × (a.undo.images ≡ kept ++ undone)
    × (least_kept a.undo r ≤ length kept) × (new ≡ put_back s a kept undone r))

-- an allocation failed, or a page was not read
abbrev pub Interrupts : State → Fault → Type 0
Interrupts s f = (f ≡ fault.Memory) ⊎ IsPageFault s f

-- the steps that were made are kept
abbrev pub IsInterrupted : State → SessionTxn → Rollback → Fault → State → Type 0
IsInterrupted s a r f new = (mid : State) × IsUnwound s a r mid × Interrupts mid f × (new ≡ after_refusal f mid)

-- ---- steps

abbrev pub SavepointStep : State → SessionTxn → Step → State → Type 0
SavepointStep s a (Done answer) new =
    (length a.undo.marks < MAX_SAVEPOINTS) × (answer ≡ Saved (length a.undo.marks)) × (new ≡ answered s a call.Savepoint answer s.counts)
SavepointStep s a (Refused f) new = (f ≡ fault.TooManySavepoints) × (MAX_SAVEPOINTS ≤ length a.undo.marks) × (new ≡ s)
SavepointStep s a (Waits wait) new = ⊥
SavepointStep s a Nothing new = ⊥

abbrev pub BackToStep : State → SessionTxn → ℕ → Step → State → Type 0
BackToStep s a n (Done answer) new = (n < length a.undo.marks) × (answer ≡ WentBack) × (new ≡ answered s a (call.BackTo n) answer s.counts)
BackToStep s a n (Refused f) new =
    ((f ≡ fault.NoSavepoint) × (length a.undo.marks ≤ n) × (new ≡ s)) ⊎ ((n < length a.undo.marks) × IsInterrupted s a (To n) f new)
BackToStep s a n (Waits wait) new = ⊥
BackToStep s a n Nothing new = ⊥
