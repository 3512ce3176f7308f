-- What the devices of a restart stand for between two steps: the log device for a log, and the heap for the pages of a store.
use Rattle.std.specs.Prelude.{◌≡◌, ◌⊎◌, ◌+◌, ◌-◌, ◌≤◌, ℕ, List, Bool, Some, None, Result, Err, IfSome, OnOk, drop, length, slice_get}
use Rattle.std.specs.List.{AllByRecursion}
use Rattle.shore_types.specs.declared.faults.Fault.TheVariants as fault
use Rattle.shore_types.specs.declared.ids.PageId.{PageId}
use Rattle.shore_types.specs.declared.layout.Geometry.{Geometry}
use Rattle.shore_types.specs.declared.layout.TheConstants.{LOG_FRONT_BYTES}
use Rattle.shore_disk.specs.Device.{DeviceHistory, LeavesOnly, may_leave, size}
use Rattle.shore_disk.specs.declared.device.Disk.{Ghosts}
use Rattle.shore_gate.specs.declared.anchors.Anchor.{Anchor}
use Rattle.shore_log.specs.Settled.{IsSettledFrom, cut_of_log, records_of_log, stable}
use Rattle.shore_log.specs.declared.device.LogDev.{LogDev}
use Rattle.shore_page.specs.Slots.{Slot}
use Rattle.shore_heap.specs.declared.heap.Heap.{Heap}
use Rattle.shore_heap.specs.Contents.{unclaimed}
use Rattle.shore_heap.specs.Heaps as heaps
use Rattle.shore_heap.specs.Heaps.{Shows}
use Rattle.laws_lives.specs.Pages.{redone_on_all}
use Rattle.laws_lives.specs.Recovery.{AppendRecord, IsRecoverable, LeadsTo, RecoveryEvent, RecoveryState, after_append, after_force}
use Rattle.shore_model.specs.declared.log_records.LogRecord.{LogRecord}
use Rattle.laws_lives.specs.Restarts.{RestartsTo}
use Rattle.laws_lives.specs.DirtyPages.{redo_begins_behind}
use Rattle.shore_analysis.specs.declared.kept_tables.RedoTable.{RedoTable}
use Rattle.shore_analysis.specs.Padded.{padded}
use Rattle.laws_heaps.specs.HeapRecoveries.{HasRecoveries}
use Rattle.laws_heaps.specs.LoggedHeaps.{AreSettled, IsStoreOf}
use Rattle.shore_restart.specs.Anchors.{EndsBehind}
use Rattle.shore_restart.specs.declared.errors.RestartError.{RestartError}
use Rattle.shore_restart.specs.declared.errors.RestartError.TheVariants.{Page}
use Rattle.laws_checkpoints.specs.Checkpoints.{Anchored, TableIsRight, end_among, redo_behind}
use Rattle.laws_checkpoints.specs.CheckpointedStores.{CheckpointedStore, NoCheckpoint}
use Rattle.laws_checkpoints.specs.RecoveryNumbers.{RecoveryNumbers, recovery_after}
use Rattle.laws_runs.specs.CheckpointedStays.{LosesNoPower, RestartsBehind}
use Rattle.laws_images.specs.Moments.{Moment, ShowsLeft}
use Rattle.laws_images.specs.MomentsBehind.{IsCoveredBehind, PathBehind, RestartGoesOnBehind}

-- ---- the log device

-- what it has of its log, with a record of nobody in the place of each that is cut off: so each has the number that it has in the whole log
abbrev pub log_seen : {L : Type 0} {G : Ghosts L} → LogDev L G → List LogRecord
log_seen log = padded (cut_of_log log) (records_of_log log)

-- it is at rest behind this anchor: it has what is kept of the store's log, as much of it is durable, and no frame is under way; nobody who is still to end has a record that
-- is cut off
pub record IsAtRest {L : Type 0} {G : Ghosts L} (log_front : List ℕ) (anchor : Anchor) (log : LogDev L G) (s : RecoveryState) : Type 0 where
  pub settled : IsSettledFrom anchor.tail anchor.tail_place log log_front
  pub none_staged : log.staged ≡ None
  pub records : drop (cut_of_log log) s.log ≡ records_of_log log
  pub ended : EndsBehind (cut_of_log log) s.log
  pub durable : s.durable ≡ cut_of_log log + length (stable log)

-- the calls of its device
abbrev pub log_history : {L : Type 0} {G : Ghosts L} → LogDev L G → DeviceHistory
log_history {G = G} log = G.history log.device

abbrev pub log_faults : {L : Type 0} {G : Ghosts L} → LogDev L G → ℕ
log_faults {G = G} log = G.faults log.device

-- the length of its stream
abbrev pub stream_bytes_of : {L : Type 0} {G : Ghosts L} → LogDev L G → ℕ
stream_bytes_of log = size (log_history log) - LOG_FRONT_BYTES

-- it is read from the same anchor on, and its device is as honest and as long
pub record SameLog {L : Type 0} {G : Ghosts L} (old new : LogDev L G) : Type 0 where
  pub tail : new.tail ≡ old.tail
  pub anchors : new.anchors ≡ old.anchors
  pub honest : G.is_honest new.device ≡ G.is_honest old.device
  pub size : size (log_history new) ≡ size (log_history old)

-- A force of the log device, beside a volume with such calls, on which it was not called. At its end all of the log is durable.
pub record Forces {L : Type 0} {G : Ghosts L} {A : Type 0} (result : Result A RestartError) (g : Geometry) (log_front front : List ℕ) (anchor : Anchor) (volume : DeviceHistory) (old new : LogDev L G) (s : RecoveryState) : Type 0 where
  pub durable : ℕ
  pub moments : List Moment
  pub path : PathBehind g log_front front anchor (record { log = log_history old; volume = volume; store = s }) moments (record { log = log_history new; volume = volume; store = after_force s durable })
  pub done : OnOk result ((durable ≡ length s.log) × IsAtRest log_front anchor new (after_force s durable))

-- one frame of it, if a record waited
pub record ForcesFrame {L : Type 0} {G : Ghosts L} (result : Result Bool RestartError) (g : Geometry) (log_front front : List ℕ) (anchor : Anchor) (volume : DeviceHistory) (old new : LogDev L G) (s : RecoveryState) : Type 0 where
  pub durable : ℕ
  pub no_lower : s.durable ≤ durable
  pub goes_on : RestartGoesOnBehind g log_front front anchor (record { log = log_history old; volume = volume; store = s }) (record { log = log_history new; volume = volume; store = after_force s durable })
  pub covered : IsCoveredBehind g log_front front anchor (record { log = log_history new; volume = volume; store = after_force s durable })
  pub done : OnOk result (IsAtRest log_front anchor new (after_force s durable))

-- ---- the heap

-- a store with the recovery numbers of its pages, behind this anchor, and no checkpoint under way
abbrev pub resting : Anchored → RecoveryState → RecoveryNumbers → CheckpointedStore
resting a s recovery = record { store = s; recovery = recovery; stage = NoCheckpoint; anchored = a }

-- one store is another but for the pages of the volume
pub record SameInPlace (s later : RecoveryState) : Type 0 where
  pub log : later.log ≡ s.log
  pub durable : later.durable ≡ s.durable
  pub redone : later.redone ≡ s.redone
  pub in_place : later.in_place ≡ s.in_place

-- what redo has at first: a store of which these records are kept behind so many, all durable, with none done but those that are on all pages by this table,
-- which is right of the pages in place
pub record IsToRedo (cut : ℕ) (kept : List LogRecord) (table : RedoTable) (s : RecoveryState) : Type 0 where
  pub kept_are : drop cut s.log ≡ kept
  pub within : cut ≤ length s.log
  pub durable : s.durable ≡ length s.log
  pub redone : s.redone ≡ redo_begins_behind table.begin table.dirty
  pub behind : cut ≤ s.redone
  pub right : TableIsRight s.log table.begin table.dirty s.in_place
  pub inside : s.redone ≤ length s.log

module _ {V : Type 0} {H : Ghosts V} where
  -- The heap is the store's, over a volume that is settled with these texts of its pages behind this front. Each slot of a frame claims what
  -- its record takes, and nothing besides, and the pages are shown.
  pub record Stands (front : List ℕ) (disk : ℕ → List ℕ) (heap : Heap V H) (s : RecoveryState) : Type 0 where
    pub store : IsStoreOf heap disk s
    pub settled : AreSettled heap
    pub recoverable : IsRecoverable s
    pub slots : PageId → List Slot
    pub shows : Shows unclaimed heap front disk slots

  -- Whatever the anchor is: by works of a restart one store becomes the other, and the recovery numbers of the one heap those of the other.
  abbrev pub Notes : Heap V H → Heap V H → RecoveryState → RecoveryState → Type 0
  Notes old new s later = (a : Anchored) (recovery : RecoveryNumbers) → HasRecoveries old recovery
      → (works : List RecoveryEvent) × (after : RecoveryNumbers) × RestartsBehind (resting a s recovery) works (resting a later after) × HasRecoveries new after

  -- Work of a restart on the pages leads from one store to another. A crash at any moment of it leaves pages of the one before, and at its end
  -- pages of the one after too.
  pub record Worked (front : List ℕ) (old new : Heap V H) (s later : RecoveryState) : Type 0 where
    pub works : List RecoveryEvent
    pub work : RestartsTo s works later
    pub loses_none : AllByRecursion LosesNoPower works
    pub volume : LeavesOnly (heaps.history_of old) (heaps.history_of new) (ShowsLeft (heaps.geometry_of old) front s)
    pub left : (c : List ℕ) → may_leave (heaps.history_of new) c → ShowsLeft (heaps.geometry_of old) front later c

  -- Pages were written back at most, and unless the device failed the heap stands for the same store over what is left of them.
  pub record Fetches (result : Result (Unit {0}) RestartError) (front : List ℕ) (old new : Heap V H) (s : RecoveryState) : Type 0 where
    pub later : RecoveryState
    pub work : Worked front old new s later
    pub same : SameInPlace s later
    pub stands : (result ≡ Err (Page fault.Device)) ⊎ ((left : ℕ → List ℕ) × Stands front left new later × Notes old new s later)

  -- The next record is redone, if its page did not have it, and the heap stands for the store that comes of it.
  pub record Redoes {A : Type 0} (result : Result A RestartError) (front : List ℕ) (old new : Heap V H) (s : RecoveryState) : Type 0 where
    pub later : RecoveryState
    pub work : Worked front old new s later
    pub log : later.log ≡ s.log
    pub durable : later.durable ≡ s.durable
    pub done : OnOk result ((later.redone ≡ s.redone + 1) × (left : ℕ → List ℕ) × Stands front left new later)
    pub notes : OnOk result (Notes old new s later)
    pub pages : OnOk result ((r : LogRecord) → slice_get s.log s.redone ≡ Some r → later.in_place ≡ redone_on_all (s.redone + 1) r s.in_place)

  -- the moment of a heap, beside a log device with such calls
  abbrev pub moment_of : DeviceHistory → Heap V H → RecoveryState → Moment
  moment_of log heap s = record { log = log; volume = heaps.history_of heap; store = s }

  -- All records are redone, one after another, while the log device is not called. The heap stands for a store of the same log then.
  pub record RedoesAll {A : Type 0} (result : Result A RestartError) (log : DeviceHistory) (log_front front : List ℕ) (anchor : Anchor) (old new : Heap V H) (s : RecoveryState) : Type 0 where
    pub later : RecoveryState
    pub moments : List Moment
    pub path : PathBehind (heaps.geometry_of old) log_front front anchor (moment_of log old s) moments (moment_of log new later)
    pub log_is : later.log ≡ s.log
    pub durable : later.durable ≡ s.durable
    pub done : OnOk result ((later.redone ≡ length s.log) × (left : ℕ → List ℕ) × Stands front left new later)
    pub notes : OnOk result (Notes old new s later)

  -- the volume is of the same layout and length, and as honest, and there are as many frames
  pub record SameVolume (old new : Heap V H) : Type 0 where
    pub geometry : heaps.geometry_of new ≡ heaps.geometry_of old
    pub honest : heaps.honesty_of new ≡ heaps.honesty_of old
    pub size : size (heaps.history_of new) ≡ size (heaps.history_of old)
    pub frames : heaps.limit_of new ≡ heaps.limit_of old

  -- what a step on both devices has at first: the log device at rest, and a heap with all records done
  pub record IsReady {L : Type 0} {G : Ghosts L} (log_front front : List ℕ) (anchor : Anchor) (disk : ℕ → List ℕ) (log : LogDev L G) (heap : Heap V H) (s : RecoveryState) : Type 0 where
    pub at_rest : IsAtRest log_front anchor log s
    pub stands : Stands front disk heap s
    pub redone : s.redone ≡ length s.log

  -- Both devices may have been called, one after another. If it was not refused they are so again, over a store of which this holds.
  pub record RestartMoves {L : Type 0} {G : Ghosts L} {A : Type 0} (result : Result A RestartError) (log_front front : List ℕ) (anchor : Anchor) (old_log new_log : LogDev L G) (old new : Heap V H) (s : RecoveryState) (Done : RecoveryState → Type 0) : Type 0 where
    pub later : RecoveryState
    pub moments : List Moment
    pub path : PathBehind (heaps.geometry_of old) log_front front anchor (moment_of (log_history old_log) old s) moments (moment_of (log_history new_log) new later)
    pub done : OnOk result (Done later × (left : ℕ → List ℕ) × IsReady log_front front anchor left new_log new later)
    pub notes : OnOk result (Notes old new s later)

  -- A record of undo is done on its page, and not yet in the log: the heap stands for the store that comes of it.
  pub record Appends {L : Type 0} {G : Ghosts L} {A : Type 0} (result : Result A RestartError) (log_front front : List ℕ) (anchor : Anchor) (old_log new_log : LogDev L G) (old new : Heap V H) (s : RecoveryState) (r : LogRecord) : Type 0 where
    pub later : RecoveryState
    pub moments : List Moment
    pub path : PathBehind (heaps.geometry_of old) log_front front anchor (moment_of (log_history old_log) old s) moments (moment_of (log_history new_log) new later)
    pub done : OnOk result ((later.log ≡ s.log) × (later.redone ≡ length later.log) × IsAtRest log_front anchor new_log later × LeadsTo later (AppendRecord r) (after_append later r) × (left : ℕ → List ℕ) × Stands front left new (after_append later r))
    pub notes : OnOk result ((a : Anchored) (recovery : RecoveryNumbers) → HasRecoveries old recovery → (works : List RecoveryEvent) × (after : RecoveryNumbers)
        × RestartsBehind (resting a s recovery) works (resting a later after) × HasRecoveries new (recovery_after later (AppendRecord r) after))

  -- What an open has found: all of the log is durable and on its device at rest, behind this anchor, and no record is redone on the pages of the heap but those
  -- before which redo begins. The table of the anchored checkpoint is right of them. No page is dirty.
  pub record IsFound {L : Type 0} {G : Ghosts L} (log_front front : List ℕ) (anchor : Anchor) (disk : ℕ → List ℕ) (log : LogDev L G) (heap : Heap V H) (s : RecoveryState) : Type 0 where
    pub at_rest : IsAtRest log_front anchor log s
    pub stands : Stands front disk heap s
    pub clean : HasRecoveries heap (λ p. 0)
    pub durable : s.durable ≡ length s.log
    pub found : end_among anchor.checkpoint s.log ≡ end_among anchor.checkpoint (records_of_log log)
    pub redone : s.redone ≡ redo_behind (end_among anchor.checkpoint s.log)
    pub kept : cut_of_log log ≤ s.redone
    pub right : IfSome (end_among anchor.checkpoint s.log) (λ c. TableIsRight s.log c.begin c.dirty s.in_place)
    pub inside : s.redone ≤ length s.log
