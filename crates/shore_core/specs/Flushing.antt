-- What a step of the flush is answered, and what it leaves.
use Rattle.laws_checkpoints.specs.CheckpointedStores.{CheckpointedStore}
use Rattle.std.specs.Prelude.{◌≡◌, ◌⊎◌, ◌<◌, ℕ, Bool, List, [], ◌∷◌, IsTrue, false}
use Rattle.shore_types.specs.declared.faults.Fault.TheVariants as fault
use Rattle.shore_model.specs.declared.calls.Answer.TheVariants.{Flushed}
use Rattle.shore_model.specs.declared.log_records.LogRecord.{LogRecord}
use Rattle.shore_disk.specs.declared.device.Disk as disk
use Rattle.shore_log.specs.declared.tail.Tail as tail
use Rattle.shore_flush.specs.Flushes.{Flushes, GoesOn, NoneDue}
use Rattle.shore_heap.specs.Heaps.{bounds_of, frame_at, pool_of}
use Rattle.laws_lives.specs.Recovery.{AppendRecord, FlushPage, ForceLog, LosePower, RecoveryEvent, RedoRecord}
use Rattle.laws_calls.specs.StateChanges.{with_failure}
use Rattle.laws_calls.specs.States.{State}
use Rattle.shore_model.specs.declared.step.Step.{Step}
use Rattle.shore_model.specs.declared.step.Step.TheVariants.{Done, Waits, Refused, Nothing}
use Rattle.shore_core.specs.declared.core_calls.Core.{Core}
use Rattle.shore_core.specs.Cores.{CoreComesTo, durable_of, has_failed, heap_of}

-- the state is what it was, but that a failure of the volume is noted; once a device has failed the step is refused
abbrev pub FlushMoves : State → Step → State → Type 0
FlushMoves s (Done answer) new = (s.failed ≡ false) × ((count : ℕ) × (0 < count) × (answer ≡ Flushed count)) × (new ≡ s)
FlushMoves s (Waits wait) new = ⊥
FlushMoves s (Refused f) new =
    (IsTrue s.failed × (f ≡ fault.Failed) × (new ≡ s))
    ⊎ ((s.failed ≡ false) × (f ≡ fault.Device) × (new ≡ with_failure s))
FlushMoves s Nothing new = (s.failed ≡ false) × (new ≡ s)

-- works that write pages back, and do nothing else
abbrev pub IsFlush : RecoveryEvent → Type 0
IsFlush (FlushPage p) = Unit {0}
IsFlush (AppendRecord r) = ⊥
IsFlush (ForceLog n) = ⊥
IsFlush RedoRecord = ⊥
IsFlush (LosePower n left begin) = ⊥

abbrev pub AreFlushes : List RecoveryEvent → Type 0
AreFlushes [] = Unit {0}
AreFlushes (e ∷ works) = IsFlush e × AreFlushes works

module _ {T V : Type 0} {G : tail.Ghosts T} {H : disk.Ghosts V} where
  -- it has come to another state by such a step, and its store to another by flushes of pages alone
  pub record FlushSteps (step : Step) (new : Core T V G H) (front : List ℕ) (before : List LogRecord) (s : State) (store : CheckpointedStore) : Type 0 where
    pub later : State
    pub moves : FlushMoves s step later
    pub comes : CoreComesTo new front before store later
    pub flushes : AreFlushes comes.works

  -- Pages with durable numbers were written, the first of the volume that are due, and are clean now: the answer counts them. Or none is due, and
  -- nothing has changed. A refusal has changed no frame.
  abbrev pub FlushAnswers : Core T V G H → Step → Core T V G H → Type 0
  FlushAnswers old (Done answer) new = (count : ℕ) × (0 < count) × (answer ≡ Flushed count) × Flushes (pool_of (heap_of old)) (pool_of (heap_of new)) (durable_of old) count
  FlushAnswers old (Waits wait) new = ⊥
  FlushAnswers old (Refused f) new =
      ((IsTrue (has_failed old) × (f ≡ fault.Failed)) ⊎ (f ≡ fault.Device)) × ((k : ℕ) → frame_at (heap_of new) k ≡ frame_at (heap_of old) k)
  FlushAnswers old Nothing new =
      NoneDue (pool_of (heap_of old)) (durable_of old) × (pool_of (heap_of new) ≡ pool_of (heap_of old)) × (bounds_of (heap_of new) ≡ bounds_of (heap_of old))

  -- A turn of a flush makes one sync of a batch at most, or finds nothing to do: no batch is under way and no page is due. A refusal has changed no frame.
  abbrev pub TurnAnswers : Core T V G H → Step → Core T V G H → Type 0
  TurnAnswers old (Done answer) new = ⊥
  TurnAnswers old (Waits wait) new = ⊥
  TurnAnswers old (Refused f) new =
      ((IsTrue (has_failed old) × (f ≡ fault.Failed)) ⊎ (f ≡ fault.Device)) × ((k : ℕ) → frame_at (heap_of new) k ≡ frame_at (heap_of old) k)
  TurnAnswers old Nothing new =
      ((made : Bool) × GoesOn (pool_of (heap_of old)) (pool_of (heap_of new)) (durable_of old) made) × (bounds_of (heap_of new) ≡ bounds_of (heap_of old))
