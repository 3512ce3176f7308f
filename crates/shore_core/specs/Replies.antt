-- What a call comes to behind the refusals that stand before every call.
use Rattle.laws_checkpoints.specs.CheckpointedStores.{CheckpointedStore}
use Rattle.std.specs.Prelude.{◌≡◌, ◌⊎◌, ◌<◌, ℕ, List, Result, Ok, Err, IfErr, IfOk, true, false, length}
use Rattle.shore_disk.specs.Cause.{HasCause}
use Rattle.shore_disk.specs.declared.device.Disk as disk
use Rattle.shore_log.specs.declared.tail.Tail as tail
use Rattle.shore_dwrite.specs.Volumes.{HasNoPage, page_number, page_offset}
use Rattle.shore_pool.specs.Pools.{PoolHolds}
use Rattle.shore_heap.specs.Heaps as heaps
use Rattle.shore_heap.specs.Heaps.{LeavesPages, pool_of}
use Rattle.shore_heap.specs.Scans.{IsFrom}
use Rattle.shore_disk.specs.Device.{LeavesOnly, size}
use Rattle.shore_pool.specs.Pools as pools
use Rattle.shore_types.specs.Layout.{HasPage}
use Rattle.shore_types.specs.declared.faults.Device.{Device}
use Rattle.shore_types.specs.declared.faults.Device.TheVariants.{Volume}
use Rattle.shore_types.specs.declared.faults.Fault.{Fault}
use Rattle.shore_types.specs.declared.faults.Fault.TheVariants as fault
use Rattle.shore_types.specs.declared.faults.Fault.TheVariants.{LogFull, Memory}
use Rattle.shore_types.specs.declared.ids.PageId.{PageId}
use Rattle.shore_types.specs.declared.layout.Geometry.{Geometry}
use Rattle.shore_types.specs.declared.versions.Version.{Version}
use Rattle.shore_model.specs.declared.calls.Call.{Call}
use Rattle.shore_model.specs.declared.calls.Call.TheVariants as call
use Rattle.shore_model.specs.declared.calls.Outcome.TheVariants as outcome
use Rattle.shore_model.specs.declared.log_records.LogRecord.{LogRecord}
use Rattle.shore_model.specs.Records.{part_of}
use Rattle.shore_model.specs.declared.step.Step.{Step}
use Rattle.shore_model.specs.declared.step.Step.TheVariants.{Done, Waits, Refused, Nothing}
use Rattle.laws_lives.specs.Sessions.{SessionTxn}
use Rattle.laws_calls.specs.StateChanges.{CanLog, MayChange, after_refusal}
use Rattle.laws_calls.specs.CallSteps.{AnswersBehind, HasPlace, MayAsk, RefusesBehind, RefusesEarly, CallStep, behind_place}
use Rattle.laws_calls.specs.GivingUp.{GiveUpStep}
use Rattle.laws_calls.specs.Settling.{GoesSettled, SettledCall, SettledResume}
use Rattle.shore_types.specs.Images.{Image}
use Rattle.shore_types.specs.declared.ids.Rid.{Rid}
use Rattle.laws_room.specs.Claims.{SlotCounts}
use Rattle.shore_sessions.specs.Standing.{changed}
use Rattle.shore_sessions.specs.declared.waits.WaitingCall.{WaitingCall}
use Rattle.laws_lives.specs.Views.{IsAmong}
use Rattle.laws_calls.specs.States.{IsOfSession, State}
use Rattle.shore_types.specs.declared.locking.Granule.TheVariants.{Record}
use Rattle.shore_types.specs.declared.locking.Mode.TheVariants.{EX}
use Rattle.shore_model.specs.declared.requests.Request.{Request}
use Rattle.laws_locks.specs.CallLocks.{CanLockNow}
use Rattle.shore_path.specs.Acquires.{IsReached}
use Rattle.shore_path.specs.declared.answers.Acquired.{Acquired}
use Rattle.shore_path.specs.declared.answers.Acquired.TheVariants as acquire
use Rattle.shore_core.specs.declared.core_calls.Core.{Core}
use Rattle.shore_core.specs.Cores.{CoreComesTo, FailsOver, IsBeside, IsIn, IsOver, IsSafe, begins_of, durable_of, faults_of, geometry_of, has_failed, heap_of, history_of, last_of, control_of, tail_of, txns_of, waits_of}

-- ---- faults of the volume

-- a fault after which every call is refused
abbrev pub Fails : Fault → Type 0
Fails f = (f ≡ fault.Device) ⊎ ((device : Device) × (offset : ℕ) × (f ≡ fault.Damaged device offset))

-- A fault that says that a device is damaged names the volume, at the offset of one of the pages that had to be read: what stands there is no
-- text of that page with a number up to the last.
abbrev pub IsEarned : Geometry → (ℕ → List ℕ) → ℕ → (PageId → Type 0) → Fault → Type 0
IsEarned g disk last IsRead f = (device : Device) (offset : ℕ) → f ≡ fault.Damaged device offset → (device ≡ Volume)
    × ((id : PageId) × IsRead id × HasPage g id × (offset ≡ page_offset g.version (page_number g id)) × HasNoPage g.version (disk (page_number g id)) id last)

-- The pages that a call may read: that of its record, or those of its store. A rollback, by a resolve too, reads those of its transaction's changes, which
-- its call does not name: of it nothing more is said than that they lie in the volume.
abbrev pub Reads : Call → PageId → Type 0
Reads (call.Get id) page = page ≡ id.page
Reads (call.Insert store bytes) page = page.store ≡ store
Reads (call.Update id bytes) page = page ≡ id.page
Reads (call.Delete id) page = page ≡ id.page
Reads (call.Scan store) page = page.store ≡ store
Reads call.Begin page = ⊥
Reads (call.GetForUpdate id) page = page ≡ id.page
Reads (call.Lock granule mode) page = ⊥
Reads (call.TryLock granule mode) page = ⊥
Reads call.Savepoint page = ⊥
Reads (call.BackTo index) page = Unit {0}
Reads call.Commit page = ⊥
Reads call.Abort page = Unit {0}
Reads (call.Prepare global) page = ⊥
Reads (call.Resolve global outcome.Commit) page = ⊥
Reads (call.Resolve global outcome.Abort) page = Unit {0}
Reads call.InDoubt page = ⊥

-- .. and those that a part of a store's records has to: its first, and one behind that while the pages before it have fewer records than were asked for
abbrev pub ReadsPart : State → PageId → ℕ → PageId → Type 0
ReadsPart s first most page = IsFrom first page × (first.page < page.page → length (part_of first.store first.page page.page s.sessions.records) < most)

-- ---- replies

-- the answer of an acquire that may not wait
abbrev pub acquire_as : Result (Unit {0}) Fault → Result Acquired Fault
acquire_as (Ok done) = Ok acquire.Done
acquire_as (Err f) = Err f

-- the fault of a step, if it is one
abbrev pub fault_at : Step → Result (Unit {0}) Fault
fault_at (Refused f) = Err f
fault_at (Done answer) = Ok tt
fault_at (Waits wait) = Ok tt
fault_at Nothing = Ok tt

-- what a call came to as a step, while its refusal is a fault
abbrev pub as_step : Result Step Fault → Step
as_step (Ok step) = step
as_step (Err f) = Refused f

-- .. and the state once a device's failure, or a damaged page, is noted
abbrev pub once_noted : Result Step Fault → State → State
once_noted (Ok step) s = s
once_noted (Err f) s = after_refusal f s

-- An allocation failed behind the locks: nothing has changed but for those of an insert's place.
abbrev pub LacksBehind : Geometry → State → SessionTxn → Call → State → Type 0
LacksBehind g s a c new = (new ≡ s) ⊎ ((store : ℕ) × (bytes : List ℕ) × (id : Rid) × (c ≡ call.Insert store bytes) × HasPlace g s a store bytes id × (new ≡ behind_place s a id))

-- A call of a transaction that has its locks: it is answered, or refused, or an allocation failed.
abbrev pub IsServedBehind : Geometry → State → SessionTxn → Call → Result Step Fault → State → Type 0
IsServedBehind g s a c (Ok (Done answer)) new = AnswersBehind g s a c answer new
IsServedBehind g s a c (Err f) new = ((f ≡ Memory) × LacksBehind g s a c new) ⊎ RefusesBehind g s a c f new
IsServedBehind g s a c (Ok (Waits wait)) new = ⊥
IsServedBehind g s a c (Ok (Refused f)) new = ⊥
IsServedBehind g s a c (Ok Nothing) new = ⊥

-- a record that a transaction could lock now
abbrev pub can_lock : List Request → ℕ → Rid → Type 0
can_lock rs t id = CanLockNow rs t (Record id) EX

-- the transactions of a state that are the session's, under this number
abbrev pub ForTxn : ℕ → ℕ → State → (SessionTxn → Type 0) → Type 0
ForTxn session txn s P = (a : SessionTxn) → IsOfSession s session a → a.txn ≡ txn → P a

-- .. that have a record locked for writing
abbrev pub ForWriter : ℕ → List Request → Rid → State → (SessionTxn → Type 0) → Type 0
ForWriter session rs id s P = (a : SessionTxn) → IsOfSession s session a → IsReached rs a.txn (Record id) EX → P a

module _ {T V : Type 0} {G : tail.Ghosts T} {H : disk.Ghosts V} where
  -- the volume is the same device, of the same length, and as honest
  pub record SameVolume (old new : Core T V G H) : Type 0 where
    pub geometry : geometry_of new ≡ geometry_of old
    pub honest : heaps.honesty_of (heap_of new) ≡ heaps.honesty_of (heap_of old)
    pub size : size (history_of new) ≡ size (history_of old)

  -- what no call changes
  pub record Keeps (old new : Core T V G H) : Type 0 where
    pub volume : SameVolume old new
    pub durable : durable_of new ≡ durable_of old
    pub failed : has_failed new ≡ has_failed old
    pub first : begins_of new ≡ begins_of old

  -- a call that has read pages at most, for which others may have been written back: all else is what it was
  pub record OnlyReads (old new : Core T V G H) : Type 0 where
    pub volume : SameVolume old new
    pub durable : durable_of new ≡ durable_of old
    pub failed : has_failed new ≡ has_failed old
    pub tail : tail_of new ≡ tail_of old
    pub control : control_of new ≡ control_of old

  -- one that has asked for locks at most
  pub record OnlyLocks (old new : Core T V G H) : Type 0 where
    pub heap : heap_of new ≡ heap_of old
    pub tail : tail_of new ≡ tail_of old
    pub durable : durable_of new ≡ durable_of old
    pub failed : has_failed new ≡ has_failed old
    pub txns : txns_of new ≡ txns_of old

  -- What the volume may be left as at any moment of a call: each page as it was, or as it was in place with a durable number.
  abbrev pub MayLeave : Core T V G H → Core T V G H → Type 0
  MayLeave old new = (front : List ℕ) (disk : ℕ → List ℕ) → PoolHolds (pool_of (heap_of old)) front disk
      → LeavesOnly (history_of old) (history_of new) (LeavesPages (heap_of old) (durable_of old) front disk)

  -- it is in the state that it was in; but after a failure of the volume nothing is said of its pages
  abbrev pub Stays : {A : Type 0} → Core T V G H → Result A Fault → List ℕ → List LogRecord → State → CheckpointedStore → Type 0
  Stays new (Ok done) front before s store = CoreComesTo new front before store s
  Stays new (Err f) front before s store = ((f ≡ fault.Device) × IsBeside before new s × FailsOver new front s store) ⊎ CoreComesTo new front before store s

  -- In whatever safe state the core was, it has come to another, which is a step of the manager over plain data once a failure is noted.
  pub record Replied (session : ℕ) (c : Call) (result : Result Step Fault) (old new : Core T V G H) (front : List ℕ) (before : List LogRecord) (s : State) (store : CheckpointedStore) : Type 0 where
    pub later : State
    pub replies : CallStep (geometry_of old) s session c (as_step result) (once_noted result later)
    pub comes : Stays new result front before later store

  -- .. as a whole: if it waits for a lock, it does so on no cycle
  pub record Called (session : ℕ) (c : Call) (result : Result Step Fault) (old new : Core T V G H) (front : List ℕ) (before : List LogRecord) (s : State) (store : CheckpointedStore) : Type 0 where
    pub later : State
    pub calls : SettledCall (geometry_of old) s session c (as_step result) (once_noted result later)
    pub comes : Stays new result front before later store

  -- .. a call of a transaction under way, from what refuses it before its locks on
  pub record AskedFor (a : SessionTxn) (c : Call) (result : Result Step Fault) (old new : Core T V G H) (front : List ℕ) (before : List LogRecord) (s : State) (store : CheckpointedStore) : Type 0 where
    pub later : State
    pub asks : ((f : Fault) × RefusesEarly (geometry_of old) c f × (result ≡ Err f) × (later ≡ s)) ⊎ (MayAsk (geometry_of old) c × GoesSettled (geometry_of old) s a c (as_step result) (once_noted result later))
    pub comes : Stays new result front before later store

  -- .. and behind them
  pub record Served (a : SessionTxn) (c : Call) (result : Result Step Fault) (old new : Core T V G H) (front : List ℕ) (before : List LogRecord) (s : State) (store : CheckpointedStore) : Type 0 where
    pub later : State
    pub serves : IsServedBehind (geometry_of old) s a c result (once_noted result later)
    pub comes : Stays new result front before later store

  -- it has come to another state by a step of the manager over plain data
  pub record Stepped (session : ℕ) (c : Call) (step : Step) (old new : Core T V G H) (front : List ℕ) (before : List LogRecord) (s : State) (store : CheckpointedStore) : Type 0 where
    pub later : State
    pub moves : SettledCall (geometry_of old) s session c step later
    pub comes : CoreComesTo new front before store later
    -- if a call fails the core, a crash leaves of its volume what the store may lose power with, though its log has grown
    pub fails : has_failed old ≡ false → later.failed ≡ true → FailsOver new front later store

  -- so has a resume
  pub record Resumed (session : ℕ) (step : Step) (old new : Core T V G H) (front : List ℕ) (before : List LogRecord) (s : State) (store : CheckpointedStore) : Type 0 where
    pub later : State
    pub moves : SettledResume (geometry_of old) s session step later
    pub comes : CoreComesTo new front before store later

  -- .. and a wait that is to be taken back
  pub record GaveUp (session : ℕ) (step : Step) (old new : Core T V G H) (front : List ℕ) (before : List LogRecord) (s : State) (store : CheckpointedStore) : Type 0 where
    pub later : State
    pub moves : GiveUpStep s session step later
    pub comes : CoreComesTo new front before store later

  -- the pages that going on with the call of a session may read
  abbrev pub ReadsWaiting : Core T V G H → ℕ → PageId → Type 0
  ReadsWaiting core session page = (w : WaitingCall) × IsAmong w (waits_of core) × (w.session ≡ session) × Reads w.call page

  -- over a volume that holds whatever texts of its pages, an answer by `Damaged` is earned by one of these pages
  abbrev pub Earns : {A : Type 0} → Core T V G H → (PageId → Type 0) → Result A Fault → Type 0
  Earns core IsRead r = (front : List ℕ) (disk : ℕ → List ℕ) → PoolHolds (pool_of (heap_of core)) front disk → IfErr r (IsEarned (geometry_of core) disk (last_of core) IsRead)

  -- .. and one by `NeedForce` by the pages in all frames, as this core has them: none is clean, and each has a number that is not durable. One has this
  -- number.
  abbrev pub NeedsForceIn : {A : Type 0} → Core T V G H → Core T V G H → Result A Fault → Type 0
  NeedsForceIn old at r = (front : List ℕ) (disk : ℕ → List ℕ) → PoolHolds (pool_of (heap_of old)) front disk
      → IfErr r (λ f. (number : ℕ) → f ≡ fault.NeedForce number → pools.NeedsForce (pool_of (heap_of at)) (durable_of at) number)

  -- .. as the call found them
  abbrev pub NeedsForce : {A : Type 0} → Core T V G H → Result A Fault → Type 0
  NeedsForce core r = NeedsForceIn core core r

  -- When a call has to need the force that it asks for: as it begins. A rollback changes page after page, so it needs it as it has left them.
  abbrev pub forced_at : Call → Core T V G H → Core T V G H → Core T V G H
  forced_at (call.BackTo index) old new = new
  forced_at call.Abort old new = new
  forced_at (call.Get id) old new = old
  forced_at (call.Insert store bytes) old new = old
  forced_at (call.Update id bytes) old new = old
  forced_at (call.Delete id) old new = old
  forced_at (call.Scan store) old new = old
  forced_at call.Begin old new = old
  forced_at (call.GetForUpdate id) old new = old
  forced_at (call.Lock granule mode) old new = old
  forced_at (call.TryLock granule mode) old new = old
  forced_at call.Savepoint old new = old
  forced_at call.Commit old new = old
  forced_at (call.Prepare global) old new = old
  forced_at (call.Resolve global outcome.Commit) old new = old
  forced_at (call.Resolve global outcome.Abort) old new = new
  forced_at call.InDoubt old new = old

  -- What stands beside each answer of a call that may read these pages: what no call changes is kept, at any moment each page of the volume is as it was or as it
  -- was in place with a durable number, `Damaged` names one of the pages, `NeedForce` comes if no page may leave its frame, as this core has them, and
  -- `Device` if the volume has failed.
  pub record Serves {A : Type 0} (IsRead : PageId → Type 0) (at : Core T V G H) (result : Result A Fault) (old new : Core T V G H) : Type 0 where
    pub volume : SameVolume old new
    pub durable : durable_of new ≡ durable_of old
    pub first : begins_of new ≡ begins_of old
    pub any_moment : MayLeave old new
    pub damaged : Earns old IsRead result
    pub forced : NeedsForceIn old at result
    pub cause : HasCause result (faults_of old) (faults_of new)

  -- .. of a call whose refusal is a fault, which its caller notes if it is a failure: no answer is a refusal
  pub record ServesCall (IsRead : PageId → Type 0) (at : Core T V G H) (result : Result Step Fault) (old new : Core T V G H) : Type 0 where
    pub beside : Serves IsRead at result old new
    pub failed : has_failed new ≡ has_failed old
    pub plain : IfOk result (λ step. fault_at step ≡ Ok tt)

  -- a call that makes no call of the volume's device
  pub record MakesNoCall (old new : Core T V G H) : Type 0 where
    pub keeps : Keeps old new
    pub history : history_of new ≡ history_of old
    pub faults : faults_of new ≡ faults_of old

  -- in each safe state, over each store that is its
  abbrev pub InEach : ((front : List ℕ) (disk : ℕ → List ℕ) (before : List LogRecord) (s : State) (store : CheckpointedStore) → Type 0) → Core T V G H → Type 0
  InEach P old = (front : List ℕ) (disk : ℕ → List ℕ) (before : List LogRecord) (s : State) (store : CheckpointedStore)
      → IsIn front disk before old s → IsSafe (geometry_of old) s → IsOver disk old s store → P front disk before s store

-- What a change of the session's transaction comes to, of an image that fits where it goes: it is logged and made; or there is no room in the
-- log, or an allocation failed, and the state is as it was.
abbrev pub Changes : {T V : Type 0} {G : tail.Ghosts T} {H : disk.Ghosts V} → Version → Core T V G H → SessionTxn → Rid → Image → Result (Unit {0}) Fault
    → List ℕ → List LogRecord → State → CheckpointedStore → Type 0
Changes v new a id image (Ok done) front before s store = (counts : SlotCounts) × MayChange v s id image counts × CoreComesTo new front before store (changed s a id image counts)
Changes v new a id image (Err f) front before s store = ((f ≡ Memory) ⊎ ((f ≡ LogFull) × ¬ CanLog s id image)) × CoreComesTo new front before store s
