-- What is kept of the core under its lock.
use Rattle.std.specs.Prelude.{◌≡◌, ◌≤◌, ◌<◌, ℕ, List, drop, length}
use Rattle.shore_types.specs.declared.layout.Geometry.{Geometry}
use Rattle.shore_check.specs.Stages as stages
use Rattle.shore_check.specs.declared.stage.Named.{Named}
use Rattle.shore_check.specs.declared.stage.Stage.{Stage}
use Rattle.shore_check.specs.declared.stage.Stage.TheVariants as variant
use Rattle.shore_disk.specs.Device.{may_leave}
use Rattle.shore_disk.specs.declared.device.Disk as disk
use Rattle.shore_log.specs.declared.tail.Tail as tail
use Rattle.shore_model.specs.declared.histories.Entry.{Entry}
use Rattle.shore_model.specs.declared.histories.Opening.{Opening}
use Rattle.shore_model.specs.declared.log_records.LogRecord.{LogRecord}
use Rattle.shore_txn.specs.Transactions.{room_in}
use Rattle.laws_checkpoints.specs.Checkpoints.{Anchored}
use Rattle.laws_images.specs.Moments.{ShowsLeft}
use Rattle.laws_runs.specs.CheckpointSteps.{CheckpointedMove, CheckpointedMoves, CheckpointedState}
use Rattle.laws_runs.specs.CheckpointedStates.{IsAtCheckpoints}
use Rattle.shore_core.specs.declared.core_calls.Core.{Core}
use Rattle.shore_core.specs.Cores.{IsIn, IsOver, geometry_of, history_of, txns_of}
use Rattle.shore_words.specs.declared.rule.Known.{Known}
use Rattle.shore_world.specs.EventMoves.{PlainMove, moves_among}
use Rattle.shore_world.specs.Labels.{IsVolumeFront}

-- the anchor that a seat knows
abbrev pub anchored_at : Known → Anchored
anchored_at k = record { checkpoint = k.checkpoint; tail = k.tail }

-- a move of the anchor has failed: this is where it was to lead, to a checkpoint and a record
abbrev pub HasAim : ℕ × ℕ → Type 0
HasAim aim = 0 < aim.1

-- The anchor was to be moved there as the last step of the checkpoint that has come so far: to the begin that its mark names. Its Anchor record is durable, of a log that is so far.
pub record IsAimOf (stage : Stage) (durable : ℕ) (aim : ℕ × ℕ) : Type 0 where
  pub named : Named
  pub at : stage ≡ variant.Named named
  pub is : aim ≡ (named.mark.checkpoint, named.mark.tail)
  pub logged : named.number ≤ durable

-- What a core begins with, before its first call: how its manager was opened, on which log, the entries that it has made since, the state and the store that it is at, and the front
-- of its volume.
pub record Beginning : Type 0 where
  pub opening : Opening
  pub found : List LogRecord
  pub earlier : List Entry
  pub first : CheckpointedState
  pub front : List ℕ

module _ {T V : Type 0} {G : tail.Ghosts T} {H : disk.Ghosts V} where
  -- The moves of a trail lead from that beginning to the manager that the core is, with its store and its checkpoint. Of the log, so many records were cut off
  -- as the core was opened, and these were with the log device. This is the anchor that counts. A crash leaves of the volume what the store may lose power with.
  pub record HasComeBy (start : Beginning) (cut : ℕ) (kept : List LogRecord) (core : Core T V G H) (stage : Stage) (anchored : Anchored) (trail : List PlainMove) : Type 0 where
    pub geometry : Geometry
    pub is : geometry_of core ≡ geometry
    pub ring_bytes : ℕ
    pub ring : (room_in (txns_of core)).stream_bytes ≡ ring_bytes
    pub began : IsAtCheckpoints geometry ring_bytes start.opening start.found start.earlier start.first
    pub plain : List CheckpointedMove
    pub made : List Entry
    pub last : CheckpointedState
    pub moves : CheckpointedMoves geometry start.first plain last made
    pub are : moves_among plain ≡ trail
    pub before : List LogRecord
    pub cut_off : cut ≤ length before
    pub kept_is : drop cut before ≡ kept
    pub front : List ℕ
    pub is_front : front ≡ start.front
    pub labelled : IsVolumeFront geometry front
    pub disk : ℕ → List ℕ
    pub is_in : IsIn front disk before core last.state
    pub over : IsOver disk core last.state last.store
    pub volume : (image : List ℕ) → may_leave (history_of core) image → ShowsLeft geometry front last.store.store image
    pub at : stages.IsAt stage last.store.stage
    pub anchored_is : last.store.anchored ≡ anchored
