-- What is known of both values at one moment, though each lies under a lock of its own, and neither may be free.
use Rattle.std.specs.Prelude.{◌≡◌, ◌≤◌, ◌+◌, ◌++◌, ℕ, List, length, take}
use Rattle.shore_disk.specs.Device.{LeavesOnly}
use Rattle.shore_disk.specs.declared.device.Disk.{Ghosts}
use Rattle.shore_log.specs.declared.tail.Tail as tail
use Rattle.shore_model.specs.declared.log_records.LogRecord.{LogRecord}
use Rattle.shore_world.specs.EventMoves.{PlainMove}
use Rattle.laws_checkpoints.specs.Checkpoints.{Anchored}
use Rattle.laws_images.specs.Moments.{ShowsLeft}
use Rattle.laws_images.specs.StandsBehind.{anchored_by}
use Rattle.laws_runs.specs.CheckpointSteps.{CheckpointedMove, CheckpointedState, CheckpointedSteps}
use Rattle.laws_runs.specs.StoredRuns.{IsStored}
use Rattle.shore_check.specs.declared.stage.Stage.{Stage}
use Rattle.shore_core.specs.declared.core_calls.Core.{Core}
use Rattle.shore_core.specs.Cores.{history_of, waiting_of}
use Rattle.shore_held.specs.Comings.{Beginning, HasComeBy}
use Rattle.shore_held.specs.Logs.{LogState}

-- Of what was kept as the core was opened, and of what the core sends up to the end of its step, the log device has the first records, but for what is cut off; of those that it has taken in it
-- knows so many to be forced, all that the core knows of among them; and both know one anchor. All of it holds at each moment, by the rules of the queue and of the words and by what each value keeps.
pub record AreAtOnce (cut : ℕ) (kept sent : List LogRecord) (known : ℕ) (anchored : Anchored) (held : LogState) : Type 0 where
  pub gone : List LogRecord
  pub coming : List LogRecord
  pub parts : kept ++ sent ≡ gone ++ (held.list ++ coming)
  pub cut_off : held.cut ≡ cut + length gone
  pub first : held.anchors.anchor.tail ≡ held.cut + 1
  pub stable_first : held.stable ≡ take (length held.stable) held.list
  pub known_is : known ≤ held.cut + length held.stable
  pub one_anchor : anchored ≡ anchored_by held.anchors.anchor

-- A step of a core that has come by a trail, as a move over plain data, and what it leaves of the volume at any moment of it. It learns nothing of the log, moves no anchor, and goes on with no checkpoint.
pub record IsMakingStep {T V : Type 0} {K : tail.Ghosts T} {H : Ghosts V} {start : Beginning} {cut : ℕ} {kept : List LogRecord} {old : Core T V K H} {stage : Stage} {anchored : Anchored} {trail : List PlainMove}
    (h : HasComeBy start cut kept old stage anchored trail) (later : Core T V K H) (plain : CheckpointedMove) (last : CheckpointedState) : Type 0 where
  pub steps : CheckpointedSteps h.geometry h.last plain last
  pub stored : IsStored last.state last.store.store
  pub log : last.state.log ≡ h.before ++ waiting_of later
  pub learns_nothing : last.store.store.durable ≡ h.last.store.store.durable
  pub anchor_stays : last.store.anchored ≡ h.last.store.anchored
  pub stage_stays : last.store.stage ≡ h.last.store.stage
  pub amid : LeavesOnly (history_of old) (history_of later) (ShowsLeft h.geometry h.front h.last.store.store)
