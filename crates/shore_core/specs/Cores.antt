-- What a core has, and the state that it is in.
use Rattle.laws_checkpoints.specs.CheckpointedStores.{CheckpointedStore}
use Rattle.std.specs.Prelude.{◌≡◌, ◌+◌, ◌-◌, ℕ, List, Bool, false, length}
use Rattle.shore_disk.specs.Device.{DeviceHistory, may_leave}
use Rattle.shore_disk.specs.declared.device.Disk as disk
use Rattle.shore_log.specs.declared.tail.Tail as tail
use Rattle.shore_log.specs.declared.tail.Told.{Told}
use Rattle.shore_types.specs.declared.layout.Geometry.{Geometry}
use Rattle.shore_model.specs.declared.log_records.LogRecord.{LogRecord}
use Rattle.shore_heap.specs.declared.heap.Heap.{Heap}
use Rattle.shore_heap.specs.Heaps as heaps
use Rattle.shore_heap.specs.Heaps.{Shows}
use Rattle.shore_dwrite.specs.Settled as settled_device
use Rattle.shore_sessions.specs.declared.control.Control.{Control}
use Rattle.shore_sessions.specs.Controls.{locks_in, txns_in, waits_in}
use Rattle.shore_sessions.specs.declared.waits.WaitingCall.{WaitingCall}
use Rattle.shore_locks.specs.Tables.{Table}
use Rattle.shore_txn.specs.Transactions.{kept_in}
use Rattle.shore_txn.specs.declared.transactions.Transactions.{Transactions}
use Rattle.laws_lives.specs.Pages.{LoggedPages}
use Rattle.laws_lives.specs.Recovery.{CrashMayLeave, IsRecoverable, RecoveryEvent}
use Rattle.laws_runs.specs.StoredRuns.{IsStored}
use Rattle.laws_runs.specs.RoomyStates.{LeavesRoomyLogs}
use Rattle.laws_heaps.specs.LoggedHeaps.{LeavesStore}
use Rattle.shore_model.specs.Records.{AreRecords}
use Rattle.shore_types.specs.declared.locking.Granule.{Granule}
use Rattle.shore_model.specs.declared.histories.Entry.{Entry}
use Rattle.shore_model.specs.declared.histories.Opening.{Opening}
use Rattle.laws_lives.specs.Views.{IsAmong}
use Rattle.shore_model.specs.declared.step.Wait.TheVariants.{Lock}
use Rattle.laws_calls.specs.CallHistories.{IsRoomyState}
use Rattle.laws_calls.specs.CallSteps.{MayAsk}
use Rattle.laws_calls.specs.Events.{IsStateAfter}
use Rattle.laws_calls.specs.States.{State, Waiting, page_slots}
use Rattle.shore_core.specs.declared.core_calls.Core.{Core}
use Rattle.shore_core.specs.Parts.{HasParts}
use Rattle.shore_core.specs.Stores.{IsHeapOf, WorksOn}

-- The store over plain data is the state's: it has the state's log, all of it done on the pages in place, which lack none of its records, and as much of
-- it is durable.
pub record IsKept (s : State) (store : CheckpointedStore) : Type 0 where
  pub stored : IsStored s store.store
  pub redone : store.store.redone ≡ length store.store.log
  pub recoverable : IsRecoverable store.store

-- .. or what works have made of a store is, of whose pages nothing more is said
pub record IsKeptBehind (s : State) (store : CheckpointedStore) : Type 0 where
  pub works : List RecoveryEvent
  pub after : CheckpointedStore
  pub work : WorksOn store works after
  pub kept : IsKept s after

module _ {T V : Type 0} {G : tail.Ghosts T} {H : disk.Ghosts V} where
  -- the last number whose force was told
  abbrev pub durable_of : Core T V G H → ℕ
  durable_of core = core.durable

  -- whether a device has failed
  abbrev pub has_failed : Core T V G H → Bool
  has_failed core = core.failed

  -- the log buffer that it pushes records to, and the records there
  abbrev pub tail_of : Core T V G H → T
  tail_of core = core.tail

  abbrev pub waiting_of : Core T V G H → List LogRecord
  waiting_of core = G.records core.tail

  -- the number of the first of them
  abbrev pub first_of : Core T V G H → ℕ
  first_of core = G.first core.tail

  -- what the log buffer was told of the log device
  abbrev pub told_of : Core T V G H → Told
  told_of core = G.told core.tail

  -- both: no push changes them
  abbrev pub begins_of : Core T V G H → ℕ × Told
  begins_of core = (first_of core, told_of core)

  -- the number of the log's last record
  abbrev pub last_of : Core T V G H → ℕ
  last_of core = first_of core + length (waiting_of core) - 1

  abbrev pub heap_of : Core T V G H → Heap V H
  heap_of core = core.heap

  -- its transactions, their locks and the calls that wait
  abbrev pub control_of : Core T V G H → Control
  control_of core = core.control

  abbrev pub txns_of : Core T V G H → Transactions
  txns_of core = txns_in core.control

  abbrev pub locks_of : Core T V G H → Table
  locks_of core = locks_in core.control

  abbrev pub waits_of : Core T V G H → List WaitingCall
  waits_of core = waits_in core.control

  abbrev pub geometry_of : Core T V G H → Geometry
  geometry_of core = heaps.geometry_of core.heap

  -- the calls of its volume
  abbrev pub history_of : Core T V G H → DeviceHistory
  history_of core = heaps.history_of core.heap

  abbrev pub faults_of : Core T V G H → ℕ
  faults_of core = heaps.faults_of core.heap

  -- the device of its volume
  abbrev pub volume_of : Core T V G H → V
  volume_of core = settled_device.device_of (heaps.device_of core.heap)

  -- All but its pages is that of the state, where these records are before those that its log buffer has.
  pub record IsBeside (before : List LogRecord) (core : Core T V G H) (s : State) : Type 0 where
    pub first : first_of core ≡ 1 + length before
    pub parts : HasParts core.control (waiting_of core) core.durable core.failed before s

  -- .. and its pages are, as long as no device has failed, over a volume with these texts of its pages behind this front
  pub record IsIn (front : List ℕ) (disk : ℕ → List ℕ) (before : List LogRecord) (core : Core T V G H) (s : State) : Type 0 where
    pub beside : IsBeside before core s
    pub pages : s.failed ≡ false → Shows (kept_in (txns_of core)) core.heap front disk (page_slots s)

  -- .. and has the heap's pages and their recovery numbers as long as no device has failed
  pub record IsOver (disk : ℕ → List ℕ) (core : Core T V G H) (s : State) (store : CheckpointedStore) : Type 0 where
    pub kept : IsKept s store
    pub pages : s.failed ≡ false → IsHeapOf core.heap disk store

  -- From a state and a store to others: pages may have been written back, and a record appended and done on its page.
  pub record CoreComesTo (new : Core T V G H) (front : List ℕ) (before : List LogRecord) (store : CheckpointedStore) (later : State) : Type 0 where
    pub left : ℕ → List ℕ
    pub is_in : IsIn front left before new later
    pub works : List RecoveryEvent
    pub after : CheckpointedStore
    pub work : WorksOn store works after
    pub over : IsOver left new later after

  -- Its volume has failed: of its pages no more is said than that a crash leaves what the store may lose power with that such works have made.
  pub record FailsOver (new : Core T V G H) (front : List ℕ) (later : State) (store : CheckpointedStore) : Type 0 where
    pub behind : IsKeptBehind later store
    pub left : (image : List ℕ) → may_leave (history_of new) image
        → (pages : LoggedPages) × CrashMayLeave behind.after.store pages × LeavesStore behind.after.store.log (geometry_of new) front pages image

  -- Nothing has changed but what the log buffer knows of the log device's room.
  pub record KeepsAllButRoom (old new : Core T V G H) : Type 0 where
    pub first : first_of new ≡ first_of old
    pub waiting : waiting_of new ≡ waiting_of old
    pub heap : heap_of new ≡ heap_of old
    pub control : control_of new ≡ control_of old
    pub durable : durable_of new ≡ durable_of old
    pub running : has_failed new ≡ has_failed old

-- What is kept of the state beside, by the laws over plain data: it is what a manager has come to, its calls that wait are such as may ask for locks, pages
-- and log have room, also for whatever a crash leaves of the log, and the records lie in the geometry.
pub record IsSafe (g : Geometry) (s : State) : Type 0 where
  pub opening : Opening
  pub found : List LogRecord
  pub entries : List Entry
  pub after : IsStateAfter opening found entries s
  pub asks : (w : Waiting) (at : Granule) → IsAmong w s.waiting → w.wait ≡ Lock at → MayAsk g w.call
  pub roomy : IsRoomyState g.version s
  pub stream_bytes : ℕ
  pub leaves : LeavesRoomyLogs g stream_bytes s
  pub inside : AreRecords g s.sessions.records
