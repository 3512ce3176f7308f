-- What a step of a checkpoint comes to, from a state and a store.
use Rattle.std.specs.Prelude.{◌≡◌, ◌⊎◌, ◌+◌, ◌++◌, ◌≤◌, ℕ, List, Result, Ok, Err, drop, false, length}
use Rattle.shore_types.specs.declared.faults.Fault.{Fault}
use Rattle.shore_types.specs.declared.faults.Fault.TheVariants.{LogFull, Memory}
use Rattle.shore_model.specs.declared.log_records.Payload.TheVariants.{CheckpointBegin}
use Rattle.shore_check.specs.declared.stage.Begun.{Begun}
use Rattle.laws_room.specs.LogRooms.{LogRoom}
use Rattle.shore_txn.specs.Transactions.{room_in}
use Rattle.shore_disk.specs.declared.device.Disk as disk
use Rattle.shore_log.specs.declared.device.LogDev.{LogDev}
use Rattle.shore_log.specs.declared.tail.Tail as tail
use Rattle.shore_log.specs.Indexes.{AreBelow}
use Rattle.shore_log.specs.Settled.{cut_of_log, records_of_log, stable}
use Rattle.shore_log.specs.Told.{aside_for}
use Rattle.shore_log.specs.declared.tail.Told.{Told}
use Rattle.shore_model.specs.declared.log_records.LogRecord.{LogRecord}
use Rattle.shore_model.specs.declared.step.Step.{Step}
use Rattle.shore_check.specs.Marks.{mark_of}
use Rattle.shore_check.specs.Stages.{IsAt, IsBegun, bytes_to_log, records_to_log}
use Rattle.shore_check.specs.declared.stage.Mark.{Mark}
use Rattle.shore_check.specs.declared.stage.Stage.{Stage}
use Rattle.shore_logrec.specs.Text.{CheckpointFits}
use Rattle.laws_calls.specs.States.{State, next_number}
use Rattle.laws_checkpoints.specs.Checkpoints.{Anchored, Checkpoint, cut_of, cut_point, of_checkpoint}
use Rattle.laws_checkpoints.specs.CheckpointedStores.{AnchorLogged, AreTablesNow, BeginLogged, CheckpointedStore}
use Rattle.laws_checkpoints.specs.RingRooms.{HasRingRoom}
use Rattle.laws_checkpoints.specs.StoresInOrder.{IsInOrder}
use Rattle.laws_runs.specs.CheckpointSteps.{CheckpointMoves, CheckpointedState, IsAdmitted, IsCheckpointNow, moved_to, noted, ring_room}
use Rattle.shore_core.specs.declared.checkpointing.CheckpointStep.{CheckpointStep}
use Rattle.shore_core.specs.declared.checkpointing.CheckpointStep.TheVariants.{Made, Move}
use Rattle.shore_core.specs.declared.core_calls.Core.{Core}
use Rattle.shore_core.specs.Cores.{IsIn, IsOver, last_of, txns_of}

abbrev pub with_store : State → CheckpointedStore → CheckpointedState
with_store s store = record { state = s; store = store }

-- The log device has the first of the records that are kept, as much of it forced as was told; the others are on their way to it.
pub record HasKept {D : Type 0} {L : disk.Ghosts D} (log : LogDev D L) (m : CheckpointedState) : Type 0 where
  pub cut : cut_of_log log ≡ cut_of m.store.anchored
  pub coming : List LogRecord
  pub kept : drop (cut_of m.store.anchored) m.state.log ≡ records_of_log log ++ coming
  pub forced : cut_of_log log + length (stable log) ≡ m.state.durable

-- There is room aside for all that a checkpoint under way still has to log, and no more.
abbrev pub KeepsFor : Stage → Told → Type 0
KeepsFor stage told = told.aside ≡ aside_for (records_to_log stage) (bytes_to_log stage)

-- A checkpoint may go on: its owner's stage is that of the store, which is in order, and what is owed to it has room.
pub record MayGoOn (stage : Stage) (m : CheckpointedState) : Type 0 where
  pub at : IsAt stage m.store.stage
  pub in_order : IsInOrder m.store
  pub room : HasRingRoom (ring_room m)

-- its Anchor record is durable, and this is what it says
pub record AsksToMove (mark : Mark) (m : CheckpointedState) : Type 0 where
  pub running : m.state.failed ≡ false
  pub named : Checkpoint
  pub number : ℕ
  pub logged : m.store.stage ≡ AnchorLogged named number
  pub durable : number ≤ m.store.store.durable
  pub says : mark ≡ mark_of named

-- A checkpoint that would begin now: it has the next number, its tables are as they are now, and all that it may cut is kept.
pub record IsNow (m : CheckpointedState) (c : Checkpoint) : Type 0 where
  pub begin : c.begin ≡ next_number m.state
  pub next : c.next ≡ m.state.sessions.next_txn
  pub tables : AreTablesNow m.store c.next c.txns c.dirty
  pub fits : CheckpointFits c.begin c.next c.txns c.dirty
  pub behind : m.store.anchored.tail ≤ cut_point c

-- One that would begin now, where the log device has these groups of records in frames from this tail on: it counts on what lies in all the frames that end
-- before its cut point, and on no more.
pub record Frees (tail : ℕ) (groups : List (List LogRecord)) (m : CheckpointedState) (c : Checkpoint) (kept_from : ℕ) : Type 0 where
  pub now : IsCheckpointNow m c kept_from
  pub before : List (List LogRecord)
  pub below : AreBelow tail groups (cut_point c) before kept_from

-- the log has room for it, or is full for it
abbrev pub IsRoomyFor : ℕ → List (List LogRecord) → CheckpointedState → Type 0
IsRoomyFor tail groups m = (c : Checkpoint) × (kept_from : ℕ) × Frees tail groups m c kept_from × IsAdmitted m c kept_from

abbrev pub IsFullFor : ℕ → List (List LogRecord) → CheckpointedState → Type 0
IsFullFor tail groups m = (c : Checkpoint) × (kept_from : ℕ) × Frees tail groups m c kept_from × ¬ IsAdmitted m c kept_from

abbrev pub IsReady : CheckpointedState → Begun → Type 0
IsReady m b = (c : Checkpoint) × IsNow m c × IsBegun c b

module _ {T V : Type 0} {G : tail.Ghosts T} {H : disk.Ghosts V} where
  -- the core has come to this state and store, and the owner's stage is that of the store
  pub record IsAtStage (stage : Stage) (new : Core T V G H) (front : List ℕ) (left : ℕ → List ℕ) (before : List LogRecord) (m : CheckpointedState) : Type 0 where
    pub is_in : IsIn front left before new m.state
    pub over : IsOver left new m.state m.store
    pub at : IsAt stage m.store.stage

  -- by such a step
  pub record MakesStep (step : Step) (stage : Stage) (new : Core T V G H) (front : List ℕ) (left : ℕ → List ℕ) (before : List LogRecord) (m : CheckpointedState) : Type 0 where
    pub later : CheckpointedState
    pub moves : CheckpointMoves m step later
    pub comes : IsAtStage stage new front left before later

  -- the anchor has moved to this one
  pub record MovesTo (a : Anchored) (step : Step) (stage : Stage) (new : Core T V G H) (front : List ℕ) (left : ℕ → List ℕ) (before : List LogRecord) (m : CheckpointedState) : Type 0 where
    pub moves : CheckpointMoves m step (moved_to m a)
    pub comes : IsAtStage stage new front left before (moved_to m a)

  -- A checkpoint has begun with the tables as they are now; or an allocation failed, or the log is full, and nothing was done.
  abbrev pub Begins : ℕ → List (List LogRecord) → Result (ℕ × Begun) Fault → Core T V G H → List ℕ → (ℕ → List ℕ) → List LogRecord → CheckpointedState → Type 0
  Begins tail groups (Ok begun) new front left before m =
      (c : Checkpoint) × (kept_from : ℕ) × Frees tail groups m c kept_from × IsAdmitted m c kept_from × (begun.0 ≡ c.begin) × IsBegun c begun.1
      × IsIn front left before new (noted m (of_checkpoint CheckpointBegin) (BeginLogged c)).state × IsOver left new (noted m (of_checkpoint CheckpointBegin) (BeginLogged c)).state (noted m (of_checkpoint CheckpointBegin) (BeginLogged c)).store
  Begins tail groups (Err f) new front left before m =
      ((f ≡ Memory) ⊎ ((f ≡ LogFull) × IsFullFor tail groups m)) × IsIn front left before new m.state × IsOver left new m.state m.store

  -- the sums of the log as its control has them, and the number of its last record
  abbrev pub sums_of : Core T V G H → LogRoom
  sums_of core = record {
    kept = (room_in (txns_of core)).kept;
    reserved = (room_in (txns_of core)).reserved;
    stream_bytes = (room_in (txns_of core)).stream_bytes;
    last_lsn = last_of core;
  }

  -- a step is made, or nothing is done and the log device is asked for the move
  abbrev pub StepsCheckpoint : CheckpointStep → Stage → Core T V G H → List ℕ → (ℕ → List ℕ) → List LogRecord → CheckpointedState → Type 0
  StepsCheckpoint (Made step) stage new front left before m = MakesStep step stage new front left before m
  StepsCheckpoint (Move mark) stage new front left before m = AsksToMove mark m × IsAtStage stage new front left before m
