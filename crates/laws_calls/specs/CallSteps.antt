-- What the calls of many sessions come to under locks: what refuses a call before it asks for its locks, what the lock table makes of it,
-- and what it is answered or refused with behind its locks. The locks that a refused or a waiting call has taken stay.
use Rattle.std.specs.Prelude.{◌≡◌, ◌⊎◌, ◌<◌, ◌≤◌, ◌+◌, ◌==◌, ℕ, List, ◌∷◌, Ok, Err, None, Some, false, true, not, IsTrue, IsFalse, IsSome, filter, length, map}
use Rattle.std.specs.List.{list_any}
use Rattle.std.specs.Cmp.Lexicographic.{slice_cmp}
use Rattle.std.specs.FinMap.{entries, from_entries, get}
use Rattle.std.specs.Ordering.{nat_cmp}
use Rattle.shore_types.specs.Layout.{HasGranule, HasPage, HasSlot, HasStore}
use Rattle.shore_types.specs.Locking.{level_of}
use Rattle.shore_types.specs.declared.faults.Fault.{Fault}
use Rattle.shore_types.specs.declared.faults.Fault.TheVariants as fault
use Rattle.shore_types.specs.declared.ids.Rid.{Rid}
use Rattle.shore_types.specs.declared.layout.Geometry.{Geometry}
use Rattle.shore_types.specs.declared.layout.TheConstants.{MAX_TRANSACTIONS}
use Rattle.shore_types.specs.declared.locking.Granule.{Granule}
use Rattle.shore_types.specs.declared.locking.Granule.TheVariants as granule
use Rattle.shore_types.specs.declared.locking.Mode.{Mode}
use Rattle.shore_types.specs.declared.locking.Mode.TheVariants.{EX}
use Rattle.shore_types.specs.declared.versions.Version.{Version}
use Rattle.shore_types.specs.Versions.{record_limit, slot_limit}
use Rattle.shore_model.specs.declared.calls.Answer.{Answer}
use Rattle.shore_model.specs.declared.calls.Answer.TheVariants.{Aborted, AreInDoubt, Began, Committed, Deleted, Got, Inserted, Locked, Prepared, Resolved, Scanned, Updated}
use Rattle.shore_model.specs.declared.calls.Call.{Call}
use Rattle.shore_model.specs.declared.calls.Call.TheVariants as call
use Rattle.shore_model.specs.declared.calls.Outcome as outcomes
use Rattle.shore_model.specs.Modes.{is_allowed}
use Rattle.shore_model.specs.Records.{scan_of}
use Rattle.shore_locks.specs.Grants.{released}
use Rattle.shore_locks.specs.Tables.{is_waiting}
use Rattle.shore_path.specs.declared.answers.Acquired.TheVariants as acquire
use Rattle.shore_path.specs.declared.answers.OnConflict.{OnConflict}
use Rattle.shore_path.specs.declared.answers.OnConflict.TheVariants as conflict
use Rattle.shore_path.specs.declared.answers.OnConflict.TheVariants.{Refuse}
use Rattle.shore_path.specs.Walks.{Outcome, acquired}
use Rattle.laws_locks.specs.CallLocks.{Asked, CanLockNow, lock_asked_by}
use Rattle.laws_room.specs.Choosing.{IsLowest}
use Rattle.laws_room.specs.Claims.{SlotCounts}
use Rattle.laws_lives.specs.Logged.{log_after}
use Rattle.laws_lives.specs.SessionSteps.{AnswerAbort, AnswerPrepare, entries_by}
use Rattle.laws_lives.specs.Sessions.{ResolvedTxn, SessionTxn, Sessions, abort_answered, in_prepared, prepare_answered, seated, txns_of}
use Rattle.laws_lives.specs.Views.{IsAmong}
use Rattle.shore_model.specs.declared.step.Step.{Step}
use Rattle.shore_model.specs.declared.step.Step.TheVariants.{Done, Nothing, Refused, Waits}
use Rattle.shore_model.specs.declared.step.Wait.{Wait}
use Rattle.shore_model.specs.declared.step.Wait.TheVariants.{Durable, Lock}
use Rattle.shore_model.specs.declared.rollbacks.Rollback.TheVariants.{Whole}
use Rattle.laws_calls.specs.Prepares.{PrepareStep}
use Rattle.laws_calls.specs.Rollbacks.{BackToStep, IsInterrupted, SavepointStep, TakesCall}
use Rattle.laws_calls.specs.Resolves.{ResolveStep, resolve_ended}
pub use Rattle.laws_calls.specs.StateChanges.{with_requests}
use Rattle.laws_calls.specs.StateChanges.{CanLog, FitsAt, IsPageFault, IsShort, MayChange, after_refusal, answered, begun, committed, wait_refused}
use Rattle.laws_calls.specs.States.{DoesNotWait, HasNoTxn, HasPrepared, IsInTxn, IsOfSession, MayBegin, State, Waiting, next_number, without_waiting}

-- ---- the lock table

-- a try never waits
abbrev pub on_conflict_of : Call → OnConflict
on_conflict_of (call.TryLock g mode) = Refuse
on_conflict_of (call.Get id) = conflict.Wait
on_conflict_of (call.GetForUpdate id) = conflict.Wait
on_conflict_of (call.Insert store bytes) = conflict.Wait
on_conflict_of (call.Update id bytes) = conflict.Wait
on_conflict_of (call.Delete id) = conflict.Wait
on_conflict_of (call.Scan store) = conflict.Wait
on_conflict_of (call.Lock g mode) = conflict.Wait
on_conflict_of call.Begin = conflict.Wait
on_conflict_of call.Savepoint = conflict.Wait
on_conflict_of (call.BackTo index) = conflict.Wait
on_conflict_of call.Commit = conflict.Wait
on_conflict_of call.Abort = conflict.Wait
on_conflict_of (call.Prepare global) = conflict.Wait
on_conflict_of (call.Resolve global outcome) = conflict.Wait
on_conflict_of call.InDoubt = conflict.Wait

-- what the table makes of the lock that a call asks for
abbrev pub lock_outcome : State → SessionTxn → Call → Asked → Outcome
lock_outcome s a c lock = acquired (on_conflict_of c) s.locks a.txn lock.granule lock.mode

-- .. and of the lock of an insert's place, which never waits
abbrev pub place_outcome : State → SessionTxn → Rid → Outcome
place_outcome s a id = acquired Refuse s.locks a.txn (granule.Record id) EX

-- the state behind it
abbrev pub behind_lock : State → SessionTxn → Call → Asked → State
behind_lock s a c lock = with_requests s (lock_outcome s a c lock).requests

abbrev pub behind_place : State → SessionTxn → Rid → State
behind_place s a id = with_requests s (place_outcome s a id).requests

-- the call of a transaction has the lock that it asks for, and this is the state then
abbrev pub HasLocked : State → SessionTxn → Call → State → Type 0
HasLocked s a c locked = (lock : Asked) × (lock_asked_by c ≡ Some lock) × ((lock_outcome s a c lock).answer ≡ Ok acquire.Done) × (locked ≡ behind_lock s a c lock)

-- ---- before the locks

-- nothing refuses the call before it asks for its locks
abbrev pub MayAsk : Geometry → Call → Type 0
MayAsk g (call.Get id) = HasSlot g id
MayAsk g (call.GetForUpdate id) = HasSlot g id
MayAsk g (call.Insert store bytes) = IsShort g.version bytes × HasStore g store
MayAsk g (call.Update id bytes) = IsShort g.version bytes × HasSlot g id
MayAsk g (call.Delete id) = HasSlot g id
MayAsk g (call.Scan store) = HasStore g store
MayAsk g (call.Lock asked mode) = IsTrue (is_allowed (level_of asked) mode) × HasGranule g asked
MayAsk g (call.TryLock asked mode) = IsTrue (is_allowed (level_of asked) mode) × HasGranule g asked
MayAsk g call.Begin = ⊥
MayAsk g call.Savepoint = ⊥
MayAsk g (call.BackTo index) = ⊥
MayAsk g call.Commit = ⊥
MayAsk g call.Abort = ⊥
MayAsk g (call.Prepare global) = ⊥
MayAsk g (call.Resolve global outcome) = ⊥
MayAsk g call.InDoubt = ⊥

-- the store has to be there, then the page, then the slot's number among those that a page may have
abbrev pub RefusesId : Geometry → Rid → Fault → Type 0
RefusesId g id fault.NoStore = ¬ HasStore g id.page.store
RefusesId g id fault.NoPage = HasStore g id.page.store × ¬ HasPage g id.page
RefusesId g id fault.NoRecord = HasPage g id.page × (slot_limit g.version ≤ id.slot)
RefusesId g id _ = ⊥

abbrev pub RefusesGranule : Geometry → Granule → Fault → Type 0
RefusesGranule g granule.Volume f = ⊥
RefusesGranule g (granule.Store store) f = (f ≡ fault.NoStore) × ¬ HasStore g store
RefusesGranule g (granule.Page page) f = ((f ≡ fault.NoStore) × ¬ HasStore g page.store) ⊎ ((f ≡ fault.NoPage) × HasStore g page.store × ¬ HasPage g page)
RefusesGranule g (granule.Record id) f = RefusesId g id f

abbrev pub RefusesLock : Geometry → Granule → Mode → Fault → Type 0
RefusesLock g asked mode f =
    ((f ≡ fault.BadMode) × IsFalse (is_allowed (level_of asked) mode)) ⊎ (IsTrue (is_allowed (level_of asked) mode) × RefusesGranule g asked f)

abbrev pub IsTooLong : Version → List ℕ → Fault → Type 0
IsTooLong v bytes f = (f ≡ fault.TooLong) × (record_limit v < length bytes)

-- what refuses a call of a transaction before it asks for its locks
abbrev pub RefusesEarly : Geometry → Call → Fault → Type 0
RefusesEarly g (call.Get id) f = RefusesId g id f
RefusesEarly g (call.GetForUpdate id) f = RefusesId g id f
RefusesEarly g (call.Insert store bytes) f = IsTooLong g.version bytes f ⊎ (IsShort g.version bytes × (f ≡ fault.NoStore) × ¬ HasStore g store)
RefusesEarly g (call.Update id bytes) f = IsTooLong g.version bytes f ⊎ (IsShort g.version bytes × RefusesId g id f)
RefusesEarly g (call.Delete id) f = RefusesId g id f
RefusesEarly g (call.Scan store) f = (f ≡ fault.NoStore) × ¬ HasStore g store
RefusesEarly g (call.Lock asked mode) f = RefusesLock g asked mode f
RefusesEarly g (call.TryLock asked mode) f = RefusesLock g asked mode f
RefusesEarly g call.Begin f = ⊥
RefusesEarly g call.Savepoint f = ⊥
RefusesEarly g (call.BackTo index) f = ⊥
RefusesEarly g call.Commit f = ⊥
RefusesEarly g call.Abort f = ⊥
RefusesEarly g (call.Prepare global) f = ⊥
RefusesEarly g (call.Resolve global outcome) f = ⊥
RefusesEarly g call.InDoubt f = ⊥

-- ---- the place of an insert

-- A new record of so many bytes may go to the id: it lies in the store, its slot is an empty one or the one behind the last of its page, the bytes fit, and
-- the transaction could lock it now.
pub record ServesTxn (g : Geometry) (s : State) (t store : ℕ) (bytes : List ℕ) (id : Rid) : Type 0 where
  pub of_store : id.page.store ≡ store
  pub inside : HasPage g id.page
  pub empty : get s.sessions.records id ≡ None
  pub reached : id.slot ≤ s.counts id.page
  pub fits : FitsAt g.version s id (Some bytes)
  pub free : CanLockNow s.locks.requests t (granule.Record id) EX

-- of all ids that serve, the first in place order
abbrev pub IsPlaceOf : Geometry → State → ℕ → ℕ → List ℕ → Rid → Type 0
IsPlaceOf g s t store bytes id = IsLowest (ServesTxn g s t store bytes) id

-- the insert has locked the place that it takes
abbrev pub HasPlace : Geometry → State → SessionTxn → ℕ → List ℕ → Rid → Type 0
HasPlace g s a store bytes id = IsPlaceOf g s a.txn store bytes id × ((place_outcome s a id).answer ≡ Ok acquire.Done)

-- ---- behind the locks

-- a record is there
abbrev pub Finds : State → Rid → Type 0
Finds s id = IsSome (get s.sessions.records id)

-- A call that has its locks is answered, and leaves this.
abbrev pub AnswersBehind : Geometry → State → SessionTxn → Call → Answer → State → Type 0
AnswersBehind g s a (call.Get id) answer new =
    ((bytes : List ℕ) × (get s.sessions.records id ≡ Some bytes) × (answer ≡ Got bytes)) × (new ≡ answered s a (call.Get id) answer s.counts)
AnswersBehind g s a (call.GetForUpdate id) answer new =
    ((bytes : List ℕ) × (get s.sessions.records id ≡ Some bytes) × (answer ≡ Got bytes)) × (new ≡ answered s a (call.GetForUpdate id) answer s.counts)
AnswersBehind g s a (call.Insert store bytes) answer new =
    (id : Rid) × HasPlace g s a store bytes id × (answer ≡ Inserted id)
    × ((counts : SlotCounts) × MayChange g.version (behind_place s a id) id (Some bytes) counts × (new ≡ answered (behind_place s a id) a (call.Insert store bytes) answer counts))
AnswersBehind g s a (call.Update id bytes) answer new =
    Finds s id × (answer ≡ Updated) × ((counts : SlotCounts) × MayChange g.version s id (Some bytes) counts × (new ≡ answered s a (call.Update id bytes) answer counts))
AnswersBehind g s a (call.Delete id) answer new =
    Finds s id × (answer ≡ Deleted) × ((counts : SlotCounts) × MayChange g.version s id None counts × (new ≡ answered s a (call.Delete id) answer counts))
AnswersBehind g s a (call.Scan store) answer new = (answer ≡ Scanned (scan_of store s.sessions.records)) × (new ≡ answered s a (call.Scan store) answer s.counts)
AnswersBehind g s a (call.Lock asked mode) answer new = (answer ≡ Locked) × (new ≡ answered s a (call.Lock asked mode) answer s.counts)
AnswersBehind g s a (call.TryLock asked mode) answer new = (answer ≡ Locked) × (new ≡ answered s a (call.TryLock asked mode) answer s.counts)
AnswersBehind g s a call.Begin answer new = ⊥
AnswersBehind g s a call.Savepoint answer new = ⊥
AnswersBehind g s a (call.BackTo index) answer new = ⊥
AnswersBehind g s a call.Commit answer new = ⊥
AnswersBehind g s a call.Abort answer new = ⊥
AnswersBehind g s a (call.Prepare global) answer new = ⊥
AnswersBehind g s a (call.Resolve global outcome) answer new = ⊥
AnswersBehind g s a call.InDoubt answer new = ⊥

-- a page was not read, or a record is not there
abbrev pub RefusesRead : State → Rid → Fault → Type 0
RefusesRead s id fault.NoRecord = get s.sessions.records id ≡ None
RefusesRead s id f = IsPageFault s f

-- What a call that has its locks is refused with, and the state then.
abbrev pub RefusesBehind : Geometry → State → SessionTxn → Call → Fault → State → Type 0
RefusesBehind g s a (call.Get id) f new = RefusesRead s id f × (new ≡ after_refusal f s)
RefusesBehind g s a (call.GetForUpdate id) f new = RefusesRead s id f × (new ≡ after_refusal f s)
RefusesBehind g s a (call.Insert store bytes) f new =
    ((f ≡ fault.StoreFull) × ((id : Rid) → ServesTxn g s a.txn store bytes id → ⊥) × (new ≡ s))
    ⊎ ((f ≡ fault.LockTableFull) × ((id : Rid) × IsPlaceOf g s a.txn store bytes id × ((place_outcome s a id).answer ≡ Err fault.LockTableFull) × (new ≡ behind_place s a id)))
    ⊎ ((f ≡ fault.LogFull) × ((id : Rid) × HasPlace g s a store bytes id × ¬ CanLog s id (Some bytes) × (new ≡ behind_place s a id)))
    ⊎ (IsPageFault s f × (new ≡ after_refusal f s))
RefusesBehind g s a (call.Update id bytes) f new =
    (RefusesRead s id f ⊎ ((f ≡ fault.StoreFull) × Finds s id × ¬ FitsAt g.version s id (Some bytes))
    ⊎ ((f ≡ fault.LogFull) × Finds s id × FitsAt g.version s id (Some bytes) × ¬ CanLog s id (Some bytes))) × (new ≡ after_refusal f s)
RefusesBehind g s a (call.Delete id) f new = (RefusesRead s id f ⊎ ((f ≡ fault.LogFull) × Finds s id × ¬ CanLog s id None)) × (new ≡ after_refusal f s)
RefusesBehind g s a (call.Scan store) f new = IsPageFault s f × (new ≡ after_refusal f s)
RefusesBehind g s a (call.Lock asked mode) f new = ⊥
RefusesBehind g s a (call.TryLock asked mode) f new = ⊥
RefusesBehind g s a call.Begin f new = ⊥
RefusesBehind g s a call.Savepoint f new = ⊥
RefusesBehind g s a (call.BackTo index) f new = ⊥
RefusesBehind g s a call.Commit f new = ⊥
RefusesBehind g s a call.Abort f new = ⊥
RefusesBehind g s a (call.Prepare global) f new = ⊥
RefusesBehind g s a (call.Resolve global outcome) f new = ⊥
RefusesBehind g s a call.InDoubt f new = ⊥

-- an allocation failed: nothing has changed but for locks that were taken, the call's own and those of its place
abbrev pub LacksMemory : Geometry → State → SessionTxn → Call → State → Type 0
LacksMemory g s a c new =
    (new ≡ s) ⊎ ((locked : State) × HasLocked s a c locked
    × ((new ≡ locked) ⊎ ((store : ℕ) × (bytes : List ℕ) × (id : Rid) × (c ≡ call.Insert store bytes) × HasPlace g locked a store bytes id × (new ≡ behind_place locked a id))))

-- ---- a call from its locks on, when it is made and when it goes on behind a wait

abbrev pub lock_waiting : SessionTxn → Call → Granule → Waiting
lock_waiting a c at = record { session = a.session; call = c; wait = Lock at; cycle = None }

abbrev pub CallGoesOn : Geometry → State → SessionTxn → Call → Step → State → Type 0
CallGoesOn g s a c (Done answer) new = (locked : State) × HasLocked s a c locked × AnswersBehind g locked a c answer new
CallGoesOn g s a c (Waits wait) new =
    (lock : Asked) × (at : Granule) × (lock_asked_by c ≡ Some lock) × ((lock_outcome s a c lock).answer ≡ Ok (acquire.Waiting at)) × (wait ≡ Lock at)
    × (new ≡ record (behind_lock s a c lock) { waiting = lock_waiting a c at ∷ s.waiting })
CallGoesOn g s a c (Refused f) new =
    ((f ≡ fault.Memory) × LacksMemory g s a c new)
    ⊎ ((lock : Asked) × (lock_asked_by c ≡ Some lock) × ((lock_outcome s a c lock).answer ≡ Err f) × (new ≡ behind_lock s a c lock))
    ⊎ ((locked : State) × HasLocked s a c locked × RefusesBehind g locked a c f new)
CallGoesOn g s a c Nothing new = ⊥

-- ---- steps

-- those that a resolve has decided, and that are no more under way
abbrev pub ended_among : List SessionTxn → List ResolvedTxn → List ResolvedTxn
ended_among active rs = filter (λ r. not (list_any (λ a. a.txn == r.txn) active)) rs

-- a resolve has decided this one, which is no more under way, and is not answered
abbrev pub HasEnded : Sessions → ResolvedTxn → Type 0
HasEnded s r = IsAmong r s.resolving × (IsAmong r.txn (txns_of s.active) → ⊥)

-- the transactions in the table: those under way, and those that a resolve has decided and not answered
abbrev pub txn_count : State → ℕ
txn_count s = length s.sessions.active + length (ended_among s.sessions.active s.sessions.resolving)

abbrev pub BeginStep : State → ℕ → Step → State → Type 0
BeginStep s session (Done answer) new =
    HasNoTxn s session × (txn_count s < MAX_TRANSACTIONS) × MayBegin s × (answer ≡ Began s.sessions.next_txn) × (new ≡ begun s session)
BeginStep s session (Waits wait) new = ⊥
BeginStep s session (Refused f) new =
    (((f ≡ fault.AlreadyActive) × IsInTxn s session)
    ⊎ ((f ≡ fault.TooManyTransactions) × HasNoTxn s session × (MAX_TRANSACTIONS ≤ txn_count s))
    ⊎ ((f ≡ fault.LogFull) × HasNoTxn s session × (txn_count s < MAX_TRANSACTIONS) × ¬ MayBegin s)) × (new ≡ s)
BeginStep s session Nothing new = ⊥

-- a commit is answered at once, with the number of its record
abbrev pub CommitStep : State → SessionTxn → Step → State → Type 0
CommitStep s a (Done answer) new = (answer ≡ Committed (next_number s)) × (new ≡ committed s a)
CommitStep s a (Waits wait) new = ⊥
CommitStep s a (Refused f) new = ⊥
CommitStep s a Nothing new = ⊥

-- the abort is answered, and then its locks go
abbrev pub aborted : State → SessionTxn → State
aborted s a =
    with_requests
    (record s { sessions = seated s.sessions (entries_by s.sessions (AnswerAbort a)) (abort_answered s.sessions a); log = log_after s.log s.sessions (AnswerAbort a) })
    (released a.txn s.locks.requests)

abbrev pub AbortStep : State → SessionTxn → Step → State → Type 0
AbortStep s a (Done answer) new = (answer ≡ Aborted) × (new ≡ aborted s a)
AbortStep s a (Refused f) new = IsInterrupted s a Whole f new
AbortStep s a (Waits wait) new = ⊥
AbortStep s a Nothing new = ⊥

-- ---- calls that need no transaction

-- the call is one that a session makes in its transaction
abbrev pub NeedsTxn : Call → Type 0
NeedsTxn (call.Get id) = Unit {0}
NeedsTxn (call.GetForUpdate id) = Unit {0}
NeedsTxn (call.Insert store bytes) = Unit {0}
NeedsTxn (call.Update id bytes) = Unit {0}
NeedsTxn (call.Delete id) = Unit {0}
NeedsTxn (call.Scan store) = Unit {0}
NeedsTxn (call.Lock at mode) = Unit {0}
NeedsTxn (call.TryLock at mode) = Unit {0}
NeedsTxn call.Savepoint = Unit {0}
NeedsTxn (call.BackTo index) = Unit {0}
NeedsTxn call.Commit = Unit {0}
NeedsTxn call.Abort = Unit {0}
NeedsTxn (call.Prepare global) = Unit {0}
NeedsTxn call.Begin = ⊥
NeedsTxn (call.Resolve global outcome) = ⊥
NeedsTxn call.InDoubt = ⊥

-- those in doubt, by their global ids in the order of the bytes
abbrev pub listed_in_doubt : Sessions → List (List ℕ × ℕ)
listed_in_doubt s = entries (from_entries {R = slice_cmp nat_cmp} (map (λ p. (p.global, p.txn)) s.prepared))

abbrev pub InDoubtStep : State → Step → State → Type 0
InDoubtStep s (Done answer) new = (answer ≡ AreInDoubt (listed_in_doubt s.sessions)) × (new ≡ s)
InDoubtStep s (Waits wait) new = ⊥
InDoubtStep s (Refused f) new = ⊥
InDoubtStep s Nothing new = ⊥

-- a call that is about no transaction, or about one that is in doubt
abbrev pub OutsideStep : State → ℕ → Call → Step → State → Type 0
OutsideStep s session c step new =
    ((c ≡ call.InDoubt) × InDoubtStep s step new)
    ⊎ ((global : List ℕ) × (asked : outcomes.Outcome) × (c ≡ call.Resolve global asked) × ResolveStep s session global asked step new)

-- ---- calls of a transaction

-- the call of a transaction under way that no rollback keeps from it
abbrev pub OpenStep : Geometry → State → SessionTxn → Call → Step → State → Type 0
OpenStep g s a c step new =
    ((f : Fault) × RefusesEarly g c f × (step ≡ Refused f) × (new ≡ s) × (s.sessions.slots ≡ slot_limit g.version))
    ⊎ (MayAsk g c × CallGoesOn g s a c step new)
    ⊎ ((c ≡ call.Commit) × CommitStep s a step new)
    ⊎ ((c ≡ call.Savepoint) × SavepointStep s a step new)
    ⊎ ((global : List ℕ) × (c ≡ call.Prepare global) × PrepareStep g.version s a global step new)

-- The call of a transaction under way. Once a rollback has begun, nothing else is taken than what ends it; what needs no transaction comes to what it ever does.
abbrev pub InnerStep : Geometry → State → SessionTxn → Call → Step → State → Type 0
InnerStep g s a c step new =
    (NeedsTxn c × (TakesCall a.undo c → ⊥) × (step ≡ Refused fault.MustAbort) × (new ≡ s))
    ⊎ ((a.undo.rolling ≡ None) × OpenStep g s a c step new)
    ⊎ ((n : ℕ) × (c ≡ call.BackTo n) × TakesCall a.undo c × BackToStep s a n step new)
    ⊎ ((c ≡ call.Abort) × AbortStep s a step new)

-- The call of a session comes to this, and leaves that state.
abbrev pub CallStep : Geometry → State → ℕ → Call → Step → State → Type 0
CallStep g s session c step new =
    ((step ≡ Refused fault.Memory) × (new ≡ s))
    ⊎ (IsTrue s.failed × (step ≡ Refused fault.Failed) × (new ≡ s))
    ⊎ ((s.failed ≡ false) × (DoesNotWait s session → ⊥) × (step ≡ Refused fault.Busy) × (new ≡ s))
    ⊎ ((s.failed ≡ false) × DoesNotWait s session × (c ≡ call.Begin) × BeginStep s session step new)
    ⊎ ((s.failed ≡ false) × DoesNotWait s session × NeedsTxn c × HasNoTxn s session × (step ≡ Refused fault.NoTransaction) × (new ≡ s))
    ⊎ ((s.failed ≡ false) × DoesNotWait s session × ((a : SessionTxn) × IsOfSession s session a × InnerStep g s a c step new))
    ⊎ ((s.failed ≡ false) × DoesNotWait s session × NeedsTxn c × HasPrepared s session × (step ≡ Refused fault.IsPrepared) × (new ≡ s))
    ⊎ ((s.failed ≡ false) × DoesNotWait s session × OutsideStep s session c step new)

-- the Prepare of the session's transaction is appended, under this global id, and it is not answered
abbrev pub IsPreparing : Sessions → ℕ → ℕ → List ℕ → Type 0
IsPreparing s session t global = IsAmong (record { txn = t; global = global; answered = false }) s.prepared × (s.seats session ≡ in_prepared t)

-- the prepare is answered: its transaction waits for a resolve
abbrev pub prepare_ended : State → ℕ → ℕ → List ℕ → State
prepare_ended s session t global = record s {
  sessions = seated s.sessions (entries_by s.sessions (AnswerPrepare session t global)) (prepare_answered s.sessions t);
  waiting = without_waiting session s.waiting;
}

-- Going on with a call that waits for this. While its record is not durable, or its request still waits, nothing is done. A prepare or a resolve is answered
-- then, and a call goes on from its locks as if it were made now.
abbrev pub ResumesWait : Geometry → State → Waiting → Wait → Step → State → Type 0
ResumesWait g s w (Durable n) step new =
    ((s.durable < n) × (step ≡ Waits (Durable n)) × (new ≡ s))
    ⊎ ((n ≤ s.durable) × (step ≡ Done Prepared)
    × ((t : ℕ) × (global : List ℕ) × IsPreparing s.sessions w.session t global × (w.call ≡ call.Prepare global) × (new ≡ prepare_ended s w.session t global)))
    ⊎ ((n ≤ s.durable) × (step ≡ Done Resolved)
    × ((r : ResolvedTxn) × HasEnded s.sessions r × (w.call ≡ call.Resolve r.global r.outcome) × (new ≡ resolve_ended s w.session r)))
ResumesWait g s w (Lock at) step new =
    (a : SessionTxn) × IsOfSession s w.session a
    × (((is_waiting a.txn s.locks.requests ≡ true) × (step ≡ Waits (Lock at)) × (new ≡ s))
    ⊎ ((is_waiting a.txn s.locks.requests ≡ false) × CallGoesOn g (wait_refused s w.session) a w.call step new))

-- .. or once a device has failed it is refused. Who is a victim does not go on.
abbrev pub ResumesCall : Geometry → State → Waiting → Step → State → Type 0
ResumesCall g s w step new =
    (IsTrue s.failed × (step ≡ Refused fault.Failed) × (new ≡ wait_refused s w.session)) ⊎ ((s.failed ≡ false) × ResumesWait g s w w.wait step new × (w.cycle ≡ None))

-- a resume of a session
abbrev pub ResumeStep : Geometry → State → ℕ → Step → State → Type 0
ResumeStep g s session step new =
    (DoesNotWait s session × (step ≡ Nothing) × (new ≡ s)) ⊎ ((w : Waiting) × IsAmong w s.waiting × (w.session ≡ session) × ResumesCall g s w step new)
