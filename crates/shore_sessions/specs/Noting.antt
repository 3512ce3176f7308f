-- Victims of cycles of waits, as a control notes them one after another: its transactions and its calls that wait, and no locks.
use Rattle.std.specs.Prelude.{◌≡◌, ◌≢◌, ◌==◌, ℕ, List, [], ◌∷◌, Option, None, Some, Result, Ok, Err, if◌then◌else◌, map}
use Rattle.shore_types.specs.declared.faults.Device.{Device}
use Rattle.shore_types.specs.declared.faults.Fault.{Fault}
use Rattle.shore_types.specs.declared.faults.Fault.TheVariants as fault
use Rattle.shore_types.specs.declared.ids.PageId.{PageId}
use Rattle.shore_model.specs.declared.requests.Request.{Request}
use Rattle.shore_path.specs.declared.answers.Acquired.{Acquired}
use Rattle.shore_path.specs.declared.answers.Acquired.TheVariants as acquire
use Rattle.shore_deadlock.specs.declared.locking.Locked.{Locked}
use Rattle.shore_deadlock.specs.declared.locking.Locked.TheVariants as locked
use Rattle.shore_cycles.specs.declared.victims.Victim.{Victim}
use Rattle.laws_lives.specs.Sessions.{SessionTxn, doomed}
use Rattle.laws_calls.specs.CallSteps.{with_requests}
use Rattle.laws_calls.specs.States.{DoesNotWait, HasSeat, State}
use Rattle.laws_calls.specs.Victims.{with_cycle}
use Rattle.shore_txn.specs.Transactions.{AtSeat, kept_in, next_in, room_in, undos_in}
use Rattle.shore_txn.specs.Transactions as table
use Rattle.shore_txn.specs.Txns.{IsOf, last_of}
use Rattle.shore_txn.specs.declared.seat.Seat.{Seat}
use Rattle.shore_sessions.specs.declared.control.Control.{Control}
use Rattle.shore_sessions.specs.Calls.{names_of}
use Rattle.shore_sessions.specs.Controls.{HasWaitRoom, HasNoWait, locks_in, txns_in, waits_in}
use Rattle.shore_sessions.specs.Standing.{AreResolving, HasTxns, HasWaits}

-- ---- one victim

-- a transaction is a victim; its request in the table is left
abbrev pub victim_noted : State → SessionTxn → List ℕ → State
victim_noted s b cycle = record s { sessions = doomed s.sessions b; waiting = with_cycle b.session cycle s.waiting }

-- a victim's transaction under way, which its session is in: the caller's own, or that of a session with a call that waits
pub record IsNotable (session t : ℕ) (s : State) (v : Victim) (b : SessionTxn) : Type 0 where
  pub seat : HasSeat s.sessions b
  pub number : b.txn ≡ v.txn
  pub own : b.txn ≡ t → b.session ≡ session
  pub waits : b.txn ≢ t → DoesNotWait s b.session → ⊥

-- ---- victims in turn

-- they leave this, whatever became of the requests
abbrev pub AreNoted : ℕ → ℕ → State → List Victim → State → Type 0
AreNoted session t s [] new = (rs : List Request) × (new ≡ with_requests s rs)
AreNoted session t s (v ∷ vs) new = (b : SessionTxn) × IsNotable session t s v b × AreNoted session t (victim_noted s b v.cycle) vs new

-- the cycle that a transaction is to be told, behind each victim: that of the last which it is, and until then what it was
abbrev pub told_cycle : ℕ → Option (List ℕ) → List Victim → Option (List ℕ)
told_cycle t told [] = told
told_cycle t told (v ∷ vs) = told_cycle t (if v.txn == t then Some v.cycle else told) vs

-- how a control stands for a state that may have other locks
pub record HasSessionsOf (control : Control) (s : State) : Type 0 where
  pub txns : HasTxns (txns_in control) s
  pub waits : HasWaits (waits_in control) s
  pub resolving : AreResolving (txns_in control) (waits_in control) s

-- what victims leave as it was: the locks; whose the transactions are, their last records, what they may put back and what is reserved; who has no call that
-- waits
pub record KeepsOwners (old new : Control) : Type 0 where
  pub locks : locks_in new ≡ locks_in old
  pub names : names_of (undos_in (txns_in new)) ≡ names_of (undos_in (txns_in old))
  pub own : (seat : Seat) (n : ℕ) → AtSeat seat (txns_in old) (IsOf n) → AtSeat seat (txns_in new) (IsOf n)
  pub lasts : map last_of (table.txns_in (txns_in new)) ≡ map last_of (table.txns_in (txns_in old))
  pub next : next_in (txns_in new) ≡ next_in (txns_in old)
  pub room : room_in (txns_in new) ≡ room_in (txns_in old)
  pub claims : (p : PageId) → kept_in (txns_in new) p ≡ kept_in (txns_in old) p
  pub free : (session : ℕ) → HasNoWait session old → HasNoWait session new
  pub memory : HasWaitRoom old → HasWaitRoom new

-- ---- the answer

-- A victim is told its cycle. That there is one is a fact of the victims.
abbrev pub answer_of : Result Locked Fault → Option (List ℕ) → Result Acquired Fault
answer_of (Ok locked.Done) told = Ok acquire.Done
answer_of (Ok (locked.Waiting at)) told = Ok (acquire.Waiting at)
answer_of (Ok locked.Deadlock) (Some cycle) = Err (fault.Deadlock cycle)
answer_of (Ok locked.Deadlock) None = Err fault.MustAbort
answer_of (Err f) told = Err f

-- a fault of no device
abbrev pub IsOfNoDevice : Fault → Type 0
IsOfNoDevice f = (f ≢ fault.Device) × ((device : Device) (offset : ℕ) → f ≢ fault.Damaged device offset) × ((n : ℕ) → f ≢ fault.NeedForce n)

-- what a lock that may wait is refused with
abbrev pub RefusesToLock : Fault → Type 0
RefusesToLock fault.BadMode = Unit {0}
RefusesToLock fault.LockTableFull = Unit {0}
RefusesToLock (fault.Deadlock cycle) = Unit {0}
RefusesToLock fault.Memory = Unit {0}
RefusesToLock fault.NoTransaction = ⊥
RefusesToLock fault.AlreadyActive = ⊥
RefusesToLock fault.TooManyTransactions = ⊥
RefusesToLock fault.NoStore = ⊥
RefusesToLock fault.NoPage = ⊥
RefusesToLock fault.NoRecord = ⊥
RefusesToLock fault.TooLong = ⊥
RefusesToLock fault.StoreFull = ⊥
RefusesToLock fault.LogFull = ⊥
RefusesToLock fault.MustAbort = ⊥
RefusesToLock fault.Busy = ⊥
RefusesToLock fault.NoSavepoint = ⊥
RefusesToLock fault.TooManySavepoints = ⊥
RefusesToLock fault.IsPrepared = ⊥
RefusesToLock fault.BadGlobalId = ⊥
RefusesToLock fault.GlobalIdInUse = ⊥
RefusesToLock fault.NoGlobalId = ⊥
RefusesToLock (fault.WouldBlock holder) = ⊥
RefusesToLock (fault.NeedForce n) = ⊥
RefusesToLock fault.Device = ⊥
RefusesToLock fault.Failed = ⊥
RefusesToLock (fault.Damaged device offset) = ⊥
RefusesToLock fault.WrongVersion = ⊥
RefusesToLock fault.NotQuiet = ⊥
RefusesToLock fault.NotFormatted = ⊥
RefusesToLock fault.WrongPair = ⊥
RefusesToLock (fault.BadConfig place) = ⊥
