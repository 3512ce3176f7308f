-- Words of the laws of what calls of sessions come to.
use Rattle.std.specs.Prelude.{◌≡◌, ◌≢◌, ◌⊎◌, ℕ, List, None, Option, Some}
use Rattle.shore_types.specs.declared.faults.Fault.{Fault}
use Rattle.shore_types.specs.declared.faults.Fault.TheVariants as fault
use Rattle.shore_types.specs.declared.layout.Geometry.{Geometry}
use Rattle.shore_types.specs.declared.locking.Granule.{Granule}
use Rattle.shore_types.specs.declared.locking.Granule.TheVariants.{Store}
use Rattle.shore_types.specs.declared.locking.Mode.TheVariants.{IX}
use Rattle.shore_model.specs.declared.calls.Answer.TheVariants.{Aborted, Committed}
use Rattle.shore_model.specs.declared.calls.Call.{Call}
use Rattle.shore_model.specs.declared.calls.Call.TheVariants as call
use Rattle.shore_model.specs.declared.calls.Outcome.{Outcome}
use Rattle.shore_model.specs.declared.calls.Outcome.TheVariants as outcome
use Rattle.laws_locks.specs.CallLocks.{Asked}
use Rattle.shore_model.specs.declared.rollbacks.Rollback.{Rollback}
use Rattle.shore_model.specs.declared.rollbacks.Rollback.TheVariants.{To, Whole}
use Rattle.laws_lives.specs.Sessions.{SessionTxn, locks_moved}
use Rattle.laws_lives.specs.Views.{IsAmong}
use Rattle.shore_model.specs.declared.step.Step.{Step}
use Rattle.shore_model.specs.declared.step.Step.TheVariants.{Done, Nothing, Refused, Waits}
use Rattle.shore_model.specs.declared.step.Wait.TheVariants.{Durable, Lock}
use Rattle.laws_calls.specs.CallSteps.{MayAsk, behind_lock}
use Rattle.laws_calls.specs.Prepares.{granules_in_ex, prepared}
use Rattle.laws_calls.specs.Resolves.{DecidesRollback, IsResolvable, IsRollingBack, RollsBack, resolve_committed}
use Rattle.laws_calls.specs.Rollbacks.{Interrupts}
use Rattle.laws_calls.specs.States.{IsOfSession, State, Waiting, next_number}

-- whichever transaction under way the session is in
abbrev pub ForItsTxn : State → ℕ → (SessionTxn → Type 0) → Type 0
ForItsTxn s session P = (a : SessionTxn) → IsOfSession s session a → P a

-- what an insert asks for before it looks for a place
abbrev pub store_lock : ℕ → Asked
store_lock store = record { granule = Store store; mode = IX }

-- the state in which it looks for one
abbrev pub store_locked : State → SessionTxn → ℕ → List ℕ → State
store_locked s a store bytes = behind_lock s a (call.Insert store bytes) (store_lock store)

-- each call of the session that waits does so for a record of whose number this holds
abbrev pub WaitsOnRecords : State → ℕ → (ℕ → Type 0) → Type 0
WaitsOnRecords s session P = (w : Waiting) → IsAmong w s.waiting → w.session ≡ session → (n : ℕ) × (w.wait ≡ Durable n) × P n

-- .. or for a lock
abbrev pub WaitsOnLocks : State → ℕ → Type 0
WaitsOnLocks s session = (w : Waiting) → IsAmong w s.waiting → w.session ≡ session → (at : Granule) × (w.wait ≡ Lock at)

-- the state with the locks of another, and failed if that is
abbrev pub with_locks_of : State → State → State
with_locks_of other s = record s { sessions = locks_moved s.sessions other.sessions.held; locks = other.locks; failed = other.failed }

-- nothing refuses a call that waits for a lock before it asks for it
abbrev pub LockWaitsMayAsk : Geometry → State → Type 0
LockWaitsMayAsk g s = (w : Waiting) → IsAmong w s.waiting → (at : Granule) → w.wait ≡ Lock at → MayAsk g w.call

-- the step is no refusal
abbrev pub IsNoRefusal : Step → Type 0
IsNoRefusal (Done answer) = Unit {0}
IsNoRefusal (Waits wait) = Unit {0}
IsNoRefusal (Refused f) = ⊥
IsNoRefusal Nothing = Unit {0}

-- the call is no resolve
abbrev pub ResolvesNone : Call → Type 0
ResolvesNone c = (global : List ℕ) (asked : Outcome) → c ≢ call.Resolve global asked

-- a commit or an abort is answered at once, the commit with the number of its record
abbrev pub EndsAtOnce : State → Call → Step → Type 0
EndsAtOnce s c step = ((c ≡ call.Abort) × (step ≡ Done Aborted)) ⊎ ((c ≡ call.Commit) × (step ≡ Done (Committed (next_number s))))

-- the call resolves the transaction, which is in doubt, or is being rolled back by an earlier resolve
abbrev pub ResolvesTxn : State → Call → SessionTxn → Type 0
ResolvesTxn s c a = (global : List ℕ) × (asked : Outcome) × (c ≡ call.Resolve global asked) × (IsResolvable s a global ⊎ IsRollingBack s a global)

-- The call has appended the record of what it decides, and waits for that, or an interrupted resolve has appended it before; and this is left.
abbrev pub WaitsForItsRecord : State → ℕ → Call → ℕ → State → Type 0
WaitsForItsRecord s session c n new =
    ((global : List ℕ) × (c ≡ call.Prepare global) × (n ≡ next_number s) × ((a : SessionTxn) × IsOfSession s session a × (new ≡ prepared s a global (granules_in_ex s a))))
    ⊎ ((global : List ℕ) × (c ≡ call.Resolve global outcome.Commit) × (n ≡ next_number s)
    × ((a : SessionTxn) × IsResolvable s a global × (new ≡ resolve_committed s session a global)))
    ⊎ ((global : List ℕ) × (c ≡ call.Resolve global outcome.Abort) × ((b : SessionTxn) × (decided : State) × DecidesRollback s global b decided
    × RollsBack decided session global b (Waits (Durable n)) new))

-- the rollback that a call asks for
abbrev pub rollback_of : Call → Option Rollback
rollback_of (call.BackTo n) = Some (To n)
rollback_of call.Abort = Some Whole
rollback_of call.Begin = None
rollback_of (call.Get id) = None
rollback_of (call.GetForUpdate id) = None
rollback_of (call.Insert store bytes) = None
rollback_of (call.Update id bytes) = None
rollback_of (call.Delete id) = None
rollback_of (call.Scan store) = None
rollback_of (call.Lock at mode) = None
rollback_of (call.TryLock at mode) = None
rollback_of call.Savepoint = None
rollback_of call.Commit = None
rollback_of (call.Prepare global) = None
rollback_of (call.Resolve global outcome.Abort) = Some Whole
rollback_of (call.Resolve global outcome.Commit) = None
rollback_of call.InDoubt = None

-- no page has room, nor the log, nor the lock table; or another transaction is in the way
abbrev pub IsLackOfRoom : Fault → Type 0
IsLackOfRoom f =
    (f ≡ fault.StoreFull) ⊎ (f ≡ fault.LogFull) ⊎ (f ≡ fault.LockTableFull) ⊎ ((cycle : List ℕ) × (f ≡ fault.Deadlock cycle))
    ⊎ ((holder : ℕ) × (f ≡ fault.WouldBlock holder))

-- what an abort may be refused by: what refuses any call of a session, and what interrupts a rollback
abbrev pub StopsAborts : Fault → Type 0
StopsAborts f = (f ≡ fault.Failed) ⊎ (f ≡ fault.Busy) ⊎ (f ≡ fault.NoTransaction) ⊎ (f ≡ fault.IsPrepared) ⊎ ((x : State) × Interrupts x f)
