-- What a call adds to the history that is no resolve, or is refused as one before it begins: by its step alone.
use Rattle.std.proofs.Common.{ℕ, List, [], ◌∷◌, ◌++◌, Ok, Err, None, Some, ◌≡◌, refl}
use Rattle.shore_model.specs.declared.calls.Call.{Call}
use Rattle.shore_model.specs.declared.calls.Call.TheVariants as call
use Rattle.shore_model.specs.declared.histories.Decision.TheVariants as decision
use Rattle.shore_model.specs.declared.histories.Entry.{Entry}
use Rattle.shore_model.specs.declared.histories.Entry.TheVariants.{Decided, Exchanged}
use Rattle.shore_model.specs.declared.step.Step.{Step}
use Rattle.shore_model.specs.declared.step.Step.TheVariants.{Done, Nothing, Refused, Waits}
use Rattle.shore_model.specs.declared.step.Wait.{Wait}
use Rattle.shore_model.specs.declared.step.Wait.TheVariants.{Durable, Lock}
use Rattle.laws_lives.specs.SessionSteps.{exchange}
use Rattle.laws_calls.specs.CallHistories.{answered_under, txn_of}
use Rattle.laws_calls.specs.LockedStates.{decided_at_once}
use Rattle.laws_calls.specs.States.{State}
use Rattle.laws_locks.specs.CallLocks.{Asked, lock_asked_by}

-- what the record of a call has decided that waits for it
abbrev pub entries_decided : State → ℕ → Call → List Entry
entries_decided s session call.Commit = []
entries_decided s session (call.Prepare global) = Decided (decision.Prepare (txn_of s.sessions session) global) ∷ []
entries_decided s session call.Begin = []
entries_decided s session (call.Get id) = []
entries_decided s session (call.GetForUpdate id) = []
entries_decided s session (call.Insert store bytes) = []
entries_decided s session (call.Update id bytes) = []
entries_decided s session (call.Delete id) = []
entries_decided s session (call.Scan store) = []
entries_decided s session (call.Lock at mode) = []
entries_decided s session (call.TryLock at mode) = []
entries_decided s session call.Savepoint = []
entries_decided s session (call.BackTo index) = []
entries_decided s session call.Abort = []
entries_decided s session (call.Resolve global outcome) = []
entries_decided s session call.InDoubt = []

-- what a wait adds: the decision of its call, and nothing for a lock
abbrev pub entries_waited : State → ℕ → Call → Wait → List Entry
entries_waited s session c (Durable n) = entries_decided s session c
entries_waited s session c (Lock at) = []

-- what a call of a session adds to the history
abbrev pub entries_told : State → ℕ → Call → Step → List Entry
entries_told s session c (Done answer) = decided_at_once (txn_of s.sessions session) c ++ Exchanged session (answered_under s.sessions session c) (exchange c (Ok answer)) ∷ []
entries_told s session c (Refused fault) = Exchanged session (txn_of s.sessions session) (exchange c (Err fault)) ∷ []
entries_told s session c (Waits wait) = entries_waited s session c wait
entries_told s session c Nothing = []

-- a call that asks for a lock decides nothing
pub asks_decides_nothing : (t : ℕ) (c : Call) (lock : Asked) → lock_asked_by c ≡ Some lock → decided_at_once t c ≡ []
asks_decides_nothing t call.Commit lock asked = let clash : None ≡ Some lock = asked in absurd cc
asks_decides_nothing t _ lock asked = refl
