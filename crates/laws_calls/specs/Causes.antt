-- What a call is refused for: each fault by its cause, in the state in which the call asks.
use Rattle.std.specs.Prelude.{◌≡◌, ◌⊎◌, ◌<◌, ◌≤◌, ℕ, List, Option, None, Some, IsFalse, IsTrue, length}
use Rattle.shore_types.specs.Locking.{level_of}
use Rattle.shore_types.specs.declared.faults.Fault.{Fault}
use Rattle.shore_types.specs.declared.faults.Fault.TheVariants as fault
use Rattle.shore_types.specs.Layout.{HasPage, HasStore}
use Rattle.shore_types.specs.declared.ids.PageId.{PageId}
use Rattle.shore_types.specs.declared.ids.Rid.{Rid}
use Rattle.shore_types.specs.declared.layout.Geometry.{Geometry}
use Rattle.shore_types.specs.declared.layout.TheConstants.{MAX_SAVEPOINTS, MAX_TRANSACTIONS}
use Rattle.shore_types.specs.declared.locking.Granule.{Granule}
use Rattle.shore_types.specs.declared.locking.Granule.TheVariants as granule
use Rattle.shore_types.specs.declared.locking.Mode.{Mode}
use Rattle.shore_types.specs.Versions.{record_limit, slot_limit}
use Rattle.shore_model.specs.Alone.{IsAbsent, record_named_by}
use Rattle.shore_model.specs.Modes.{is_allowed}
use Rattle.shore_model.specs.declared.calls.Call.{Call}
use Rattle.shore_model.specs.declared.calls.Call.TheVariants as call
use Rattle.shore_model.specs.declared.calls.Outcome.{Outcome}
use Rattle.shore_model.specs.declared.calls.Outcome.TheVariants as outcome
use Rattle.shore_path.specs.Acquires.{IsBlockedBy, IsFullOnPath}
use Rattle.laws_locks.specs.CallLocks.{Asked, lock_asked_by}
use Rattle.laws_lives.specs.Sessions.{IsUnused, SessionTxn}
use Rattle.laws_calls.specs.CallSteps.{HasPlace, IsPlaceOf, ServesTxn, behind_lock, behind_place, txn_count, NeedsTxn}
use Rattle.laws_calls.specs.Prepares.{IsGlobalId, MayPrepare}
use Rattle.laws_calls.specs.Resolves.{IsResolvable, IsRollingBack, MayResolve}
use Rattle.laws_calls.specs.Rollbacks.{TakesCall}
use Rattle.laws_calls.specs.Shapes.{store_locked}
use Rattle.laws_calls.specs.StateChanges.{CanLog, FitsAt}
use Rattle.laws_calls.specs.States.{DoesNotWait, HasNoTxn, HasPrepared, IsInTxn, IsOfSession, MayBegin, State}

-- the session is in a transaction under way of which this holds
abbrev pub InItsTxn : State → ℕ → (SessionTxn → Type 0) → Type 0
InItsTxn s session P = (a : SessionTxn) × IsOfSession s session a × P a

-- ---- what a call names

abbrev pub store_of_granule : Granule → Option ℕ
store_of_granule granule.Volume = None
store_of_granule (granule.Store store) = Some store
store_of_granule (granule.Page page) = Some page.store
store_of_granule (granule.Record id) = Some id.page.store

abbrev pub page_of_granule : Granule → Option PageId
page_of_granule granule.Volume = None
page_of_granule (granule.Store store) = None
page_of_granule (granule.Page page) = Some page
page_of_granule (granule.Record id) = Some id.page

-- the granule that a call names, if it does
abbrev pub granule_named_by : Call → Option Granule
granule_named_by (call.Get id) = Some (granule.Record id)
granule_named_by (call.GetForUpdate id) = Some (granule.Record id)
granule_named_by (call.Insert store bytes) = Some (granule.Store store)
granule_named_by (call.Update id bytes) = Some (granule.Record id)
granule_named_by (call.Delete id) = Some (granule.Record id)
granule_named_by (call.Scan store) = Some (granule.Store store)
granule_named_by (call.Lock at mode) = Some at
granule_named_by (call.TryLock at mode) = Some at
granule_named_by call.Begin = None
granule_named_by call.Savepoint = None
granule_named_by (call.BackTo index) = None
granule_named_by call.Commit = None
granule_named_by call.Abort = None
granule_named_by (call.Prepare global) = None
granule_named_by (call.Resolve global outcome) = None
granule_named_by call.InDoubt = None

-- the bytes that it puts into a record, if it does
abbrev pub bytes_put_by : Call → Option (List ℕ)
bytes_put_by (call.Insert store bytes) = Some bytes
bytes_put_by (call.Update id bytes) = Some bytes
bytes_put_by (call.Get id) = None
bytes_put_by (call.GetForUpdate id) = None
bytes_put_by (call.Delete id) = None
bytes_put_by (call.Scan store) = None
bytes_put_by (call.Lock at mode) = None
bytes_put_by (call.TryLock at mode) = None
bytes_put_by call.Begin = None
bytes_put_by call.Savepoint = None
bytes_put_by (call.BackTo index) = None
bytes_put_by call.Commit = None
bytes_put_by call.Abort = None
bytes_put_by (call.Prepare global) = None
bytes_put_by (call.Resolve global outcome) = None
bytes_put_by call.InDoubt = None

-- a granule that it names has this of it
abbrev pub NamesOne : {A : Type 0} → (Granule → Option A) → Call → (A → Type 0) → Type 0
NamesOne {A} part c P = (at : Granule) × (x : A) × (granule_named_by c ≡ Some at) × (part at ≡ Some x) × P x

-- ---- what is lacking

-- an insert finds, behind the lock of its store, no id that serves; an update's image does not fit its page
abbrev pub LacksPlace : Geometry → State → ℕ → Call → Type 0
LacksPlace g s session (call.Insert store bytes) = InItsTxn s session (λ a. (id : Rid) → ServesTxn g (store_locked s a store bytes) a.txn store bytes id → ⊥)
LacksPlace g s session (call.Update id bytes) = FitsAt g.version s id (Some bytes) → ⊥
LacksPlace g s session (call.Get id) = ⊥
LacksPlace g s session (call.GetForUpdate id) = ⊥
LacksPlace g s session (call.Delete id) = ⊥
LacksPlace g s session (call.Scan store) = ⊥
LacksPlace g s session (call.Lock at mode) = ⊥
LacksPlace g s session (call.TryLock at mode) = ⊥
LacksPlace g s session call.Begin = ⊥
LacksPlace g s session call.Savepoint = ⊥
LacksPlace g s session (call.BackTo index) = ⊥
LacksPlace g s session call.Commit = ⊥
LacksPlace g s session call.Abort = ⊥
LacksPlace g s session (call.Prepare global) = ⊥
LacksPlace g s session (call.Resolve global outcome) = ⊥
LacksPlace g s session call.InDoubt = ⊥

-- the sums leave no room for the ending of one more transaction, for a change and its undo, or for a Prepare and what may follow it
abbrev pub LacksLog : Geometry → State → ℕ → Call → Type 0
LacksLog g s session call.Begin = MayBegin s → ⊥
LacksLog g s session (call.Insert store bytes) = InItsTxn s session (λ a. (id : Rid) × HasPlace g (store_locked s a store bytes) a store bytes id × (CanLog s id (Some bytes) → ⊥))
LacksLog g s session (call.Update id bytes) = CanLog s id (Some bytes) → ⊥
LacksLog g s session (call.Delete id) = CanLog s id None → ⊥
LacksLog g s session (call.Get id) = ⊥
LacksLog g s session (call.GetForUpdate id) = ⊥
LacksLog g s session (call.Scan store) = ⊥
LacksLog g s session (call.Lock at mode) = ⊥
LacksLog g s session (call.TryLock at mode) = ⊥
LacksLog g s session call.Savepoint = ⊥
LacksLog g s session (call.BackTo index) = ⊥
LacksLog g s session call.Commit = ⊥
LacksLog g s session call.Abort = ⊥
LacksLog g s session (call.Prepare global) = InItsTxn s session (λ a. MayPrepare s a global → ⊥)
LacksLog g s session (call.Resolve global outcome) = ⊥
LacksLog g s session call.InDoubt = ⊥

-- A granule on the path of its lock has no node of its transaction, and the table is at its limit, as the call leaves it; or one on the path to the place of
-- an insert, which had the lock of its store.
abbrev pub LacksNode : Geometry → State → ℕ → Call → Type 0
LacksNode g s session c = InItsTxn s session (λ a.
    ((lock : Asked) × (lock_asked_by c ≡ Some lock) × IsFullOnPath (behind_lock s a c lock).locks a.txn lock.granule)
    ⊎ ((store : ℕ) × (bytes : List ℕ) × (id : Rid) × (c ≡ call.Insert store bytes) × IsPlaceOf g (store_locked s a store bytes) a.txn store bytes id
    × IsFullOnPath (behind_place (store_locked s a store bytes) a id).locks a.txn (granule.Record id)))

-- a try would wait for that holder on its path
abbrev pub WouldWaitFor : State → ℕ → Call → ℕ → Type 0
WouldWaitFor s session c holder = (at : Granule) × (mode : Mode) × (c ≡ call.TryLock at mode)
    × InItsTxn s session (λ a. IsBlockedBy (behind_lock s a c (record { granule = at; mode = mode })).locks.requests a.txn at mode holder)

-- it is a resolve of this, for an outcome
abbrev pub Resolves : Call → (List ℕ → Outcome → Type 0) → Type 0
Resolves c P = (global : List ℕ) × (asked : Outcome) × (c ≡ call.Resolve global asked) × P global asked

-- What earns a refusal of a call of a session in a state. `Memory` has its cause outside of it, and so have a device's faults; that a transaction is the victim
-- of a cycle is told beside this.
abbrev pub EarnsRefusal : Geometry → State → ℕ → Call → Fault → Type 0
EarnsRefusal g s session c fault.NoTransaction = NeedsTxn c × HasNoTxn s session
EarnsRefusal g s session c fault.AlreadyActive = ((c ≡ call.Begin) × IsInTxn s session) ⊎ Resolves c (λ global asked. MayResolve s session global → ⊥)
EarnsRefusal g s session c fault.TooManyTransactions = (c ≡ call.Begin) × (MAX_TRANSACTIONS ≤ txn_count s)
EarnsRefusal g s session c fault.NoStore = NamesOne store_of_granule c (λ store. HasStore g store → ⊥)
EarnsRefusal g s session c fault.NoPage = NamesOne page_of_granule c (λ page. HasStore g page.store × (HasPage g page → ⊥))
EarnsRefusal g s session c fault.NoRecord = (id : Rid) × (record_named_by c ≡ Some id) × IsAbsent (slot_limit g.version) s.sessions.records id
EarnsRefusal g s session c fault.TooLong = (bytes : List ℕ) × (bytes_put_by c ≡ Some bytes) × (record_limit g.version < length bytes)
EarnsRefusal g s session c fault.StoreFull = LacksPlace g s session c
EarnsRefusal g s session c fault.LogFull = LacksLog g s session c
EarnsRefusal g s session c fault.LockTableFull = LacksNode g s session c
EarnsRefusal g s session c fault.BadMode = (lock : Asked) × (lock_asked_by c ≡ Some lock) × IsFalse (is_allowed (level_of lock.granule) lock.mode)
EarnsRefusal g s session c (fault.Deadlock cycle) = ⊥
EarnsRefusal g s session c fault.MustAbort =
    (NeedsTxn c × InItsTxn s session (λ a. TakesCall a.undo c → ⊥)) ⊎ Resolves c (λ global asked. (asked ≡ outcome.Commit) × ((a : SessionTxn) × IsRollingBack s a global))
EarnsRefusal g s session c fault.Busy = DoesNotWait s session → ⊥
EarnsRefusal g s session c fault.NoSavepoint = (n : ℕ) × (c ≡ call.BackTo n) × InItsTxn s session (λ a. length a.undo.marks ≤ n)
EarnsRefusal g s session c fault.TooManySavepoints = (c ≡ call.Savepoint) × InItsTxn s session (λ a. MAX_SAVEPOINTS ≤ length a.undo.marks)
EarnsRefusal g s session c fault.IsPrepared = NeedsTxn c × HasPrepared s session
EarnsRefusal g s session c fault.BadGlobalId = (global : List ℕ) × (c ≡ call.Prepare global) × (IsGlobalId g.version global → ⊥)
EarnsRefusal g s session c fault.GlobalIdInUse = (global : List ℕ) × (c ≡ call.Prepare global) × (IsUnused s.sessions global → ⊥)
EarnsRefusal g s session c fault.NoGlobalId = Resolves c (λ global asked. (a : SessionTxn) → IsResolvable s a global ⊎ IsRollingBack s a global → ⊥)
EarnsRefusal g s session c (fault.WouldBlock holder) = WouldWaitFor s session c holder
EarnsRefusal g s session c (fault.NeedForce number) = s.durable < number
EarnsRefusal g s session c fault.Device = Unit {0}
EarnsRefusal g s session c fault.Failed = IsTrue s.failed
EarnsRefusal g s session c (fault.Damaged device place) = Unit {0}
EarnsRefusal g s session c fault.WrongVersion = ⊥
EarnsRefusal g s session c fault.Memory = Unit {0}
EarnsRefusal g s session c fault.NotQuiet = ⊥
EarnsRefusal g s session c fault.NotFormatted = ⊥
EarnsRefusal g s session c fault.WrongPair = ⊥
EarnsRefusal g s session c (fault.BadConfig place) = ⊥
