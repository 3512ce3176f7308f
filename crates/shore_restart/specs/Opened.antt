-- The core that a restart gives, and what it leaves if it gives none.
use Rattle.std.specs.Prelude.{◌≡◌, ℕ, List, Result, Ok, Err, IfOk, drop, length}
use Rattle.shore_types.specs.declared.faults.Fault.{Fault}
use Rattle.shore_types.specs.declared.ids.PageId.{PageId}
use Rattle.shore_types.specs.Versions.{slot_limit}
use Rattle.shore_types.specs.declared.versions.Version.{Version}
use Rattle.shore_disk.specs.declared.device.Disk.{Ghosts}
use Rattle.shore_model.specs.declared.log_records.LogRecord.{LogRecord}
use Rattle.shore_model.specs.Logs.{Lawful}
use Rattle.shore_log.specs.declared.device.LogDev.{LogDev}
use Rattle.shore_log.specs.declared.tail.Tail as tail
use Rattle.shore_gate.specs.declared.anchors.Anchor.{Anchor}
use Rattle.shore_log.specs.Settled.{cut_of_log}
use Rattle.shore_heap.specs.declared.heap.Heap.{Heap}
use Rattle.shore_heap.specs.Heaps as heaps
use Rattle.shore_analysis.specs.KeptTables.{IsNextKept}
use Rattle.shore_model.specs.declared.histories.Opening.{Opening}
use Rattle.laws_lives.specs.Doubts.{IsOpeningOf}
use Rattle.laws_lives.specs.Recovery.{RecoveryEvent, RecoveryState}
use Rattle.laws_checkpoints.specs.CheckpointedStores.{CheckpointedStore, NoCheckpoint}
use Rattle.laws_runs.specs.CheckpointedStays.{RestartsBehind}
use Rattle.laws_images.specs.StandsBehind.{anchored_by}
use Rattle.laws_lives.specs.Undo.{HasNoLosers}
use Rattle.laws_calls.specs.States.{State}
use Rattle.laws_runs.specs.StoredRuns.{IsOpenedOver}
use Rattle.laws_runs.specs.SlotCounts.{slot_count}
use Rattle.shore_core.specs.declared.core_calls.Core.{Core}
use Rattle.shore_core.specs.Cores.{IsIn, IsOver, heap_of}
use Rattle.shore_restart.specs.declared.errors.RestartError.{RestartError}
use Rattle.shore_restart.specs.declared.passes.Report.{Report}
use Rattle.shore_restart.specs.Errors.{log_answer, volume_answer}
use Rattle.laws_checkpoints.specs.Checkpoints.{end_among}
use Rattle.laws_runs.specs.CheckpointSteps.{log_limit}
use Rattle.laws_images.specs.Moments.{Moment}
use Rattle.laws_images.specs.MomentsBehind.{PathBehind}
use Rattle.shore_restart.specs.Standing.{IsAtRest, log_history, moment_of, stream_bytes_of}

module _ {T V : Type 0} {G : tail.Ghosts T} {H : Ghosts V} where
  -- the heap, in a core or handed back
  abbrev pub heap_left : Result (Core T V G H × Report) (RestartError × Heap V H) → Heap V H
  heap_left (Ok done) = heap_of done.0
  heap_left (Err refused) = refused.1

  -- the answer with no heap at the error
  abbrev pub answer_of : Result (Core T V G H × Report) (RestartError × Heap V H) → Result (Unit {0}) RestartError
  answer_of (Ok done) = Ok tt
  answer_of (Err refused) = Err refused.0

  -- what the volume answered, and the log device
  abbrev pub volume_fault_left : Result (Core T V G H × Report) (RestartError × Heap V H) → Result (Unit {0}) Fault
  volume_fault_left result = volume_answer (answer_of result)

  abbrev pub log_fault_left : Result (Core T V G H × Report) (RestartError × Heap V H) → Result (Unit {0}) Fault
  log_fault_left result = log_answer (answer_of result)

  -- The core is in the state of a manager that opens over such a store as the log found says: those in doubt whom it has are under way, with the undo lists and
  -- locks that it gives them, and nobody else. It is behind a volume with these texts of its pages and a log stream of this length, in which what is cut off takes
  -- no room. Pages have the slots that records of the log have used. The next transaction's number is the least above those of what is kept, and not below
  -- that of the anchored checkpoint.
  pub record OpensIn (v : Version) (cut checkpoint : ℕ) (core : Core T V G H) (front : List ℕ) (disk : ℕ → List ℕ) (found : List LogRecord) (stream_bytes : ℕ) (ready : CheckpointedStore) : Type 0 where
    pub first : State
    pub slots : first.sessions.slots ≡ slot_limit v
    pub opened : (o : Opening) → IsOpeningOf found o → o.slots ≡ slot_limit v → IsOpenedOver o ready.store first
    pub counts : (p : PageId) → first.counts p ≡ slot_count ready.store.log p
    pub stream : first.stream_bytes ≡ log_limit stream_bytes cut ready.store.log
    pub next : IsNextKept (drop cut found) (end_among checkpoint found) first.sessions.next_txn
    pub is_in : IsIn front disk ready.store.log core first
    pub over : IsOver disk core first ready

  -- From the moment of an open a restart has come to another, by works behind the anchor that begin with no page dirty. If it gave a core, and the log is lawful, all records are done then, no loser is
  -- left, all of the log is durable and on its device, and the core has opened over that.
  pub record Restarts {L : Type 0} {M : Ghosts L} (result : Result (Core T V G H × Report) (RestartError × Heap V H)) (log_front front : List ℕ) (anchor : Anchor) (old new : LogDev L M) (heap : Heap V H) (s : RecoveryState) : Type 0 where
    pub ready : CheckpointedStore
    pub works : List RecoveryEvent
    pub behind : RestartsBehind (record { store = s; recovery = λ p. 0; stage = NoCheckpoint; anchored = anchored_by anchor }) works ready
    pub moments : List Moment
    pub path : PathBehind (heaps.geometry_of heap) log_front front anchor (moment_of (log_history old) heap s) moments (moment_of (log_history new) (heap_left result) ready.store)
    pub opens : Lawful s.log → IfOk result (λ done. (ready.store.redone ≡ length ready.store.log) × HasNoLosers ready.store.log × (ready.store.durable ≡ length ready.store.log)
        × IsAtRest log_front anchor new ready.store
        × (left : ℕ → List ℕ) × OpensIn (heaps.geometry_of heap).version (cut_of_log new) anchor.checkpoint done.0 front left s.log (stream_bytes_of new) ready)
