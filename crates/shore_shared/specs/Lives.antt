-- What is known of a world before its threads begin, and behind them.
use Rattle.std.specs.Prelude.{◌≡◌, ◌⊎◌, ◌+◌, ◌≤◌, ℕ, List, [], ◌++◌, Bool, false, true, IsTrue, length, take}
use Rattle.shore_check.specs.declared.stage.Stage.{Stage}
use Rattle.shore_disk.specs.Device.{may_leave, size}
use Rattle.shore_disk.specs.declared.device.Disk as disk
use Rattle.shore_fronts.specs.Volumes.{volume_bytes}
use Rattle.shore_log.specs.declared.device.LogDev.{LogDev}
use Rattle.shore_log.specs.declared.tail.Tail as tail
use Rattle.shore_log.specs.Settled.{anchor_of, cut_of_log, records_of_log}
use Rattle.shore_model.specs.declared.log_records.LogRecord.{LogRecord}
use Rattle.shore_model.specs.declared.step.Step.{Step}
use Rattle.shore_gate.specs.declared.anchors.Anchor.{Anchor}
use Rattle.laws_lives.specs.Pages.{LoggedPages}
use Rattle.laws_runs.specs.CheckpointSteps.{CheckpointedState}
use Rattle.laws_runs.specs.CheckpointedStates.{MayBeAnchored}
use Rattle.laws_images.specs.StandsBehind.{StandsForBehind, anchored_by}
use Rattle.shore_core.specs.declared.core_calls.Core.{Core}
use Rattle.shore_core.specs.Cores.{geometry_of, waiting_of}
use Rattle.shore_words.specs.Words.{known}
use Rattle.shore_words.specs.declared.rule.Known.{Known}
use Rattle.shore_held.specs.Comings.{Beginning, HasComeBy}
use Rattle.shore_held.specs.Logs.{IsKept}
use Rattle.shore_held.specs.Trails.{moves_of}
use Rattle.shore_held.specs.declared.asked.Asked.{Asked}
use Rattle.shore_world.specs.declared.world.World.{World}
use Rattle.shore_world.specs.Labels.{IsLogFront}
use Rattle.shore_world.specs.Worlds.{IsAt, anchor_in, anchors_in, cut_in, durable_in, failed_in, geometry_in, history_in, last_in, volume_history_in}

-- the anchor that a log device is read from, as seats know it
abbrev pub anchored_in : {L : Type 0} {G : disk.Ghosts L} → LogDev L G → Known
anchored_in log = known (anchor_of log).checkpoint (anchor_of log).tail

-- Core and log device before the first call, which are at this state and store of a manager: what each lock is to keep of its own.
abbrev pub AreKept : {T L V : Type 0} {K : tail.Ghosts T} {G : disk.Ghosts L} {H : disk.Ghosts V} → Beginning → Core T V K H → LogDev L G → Stage → Type 0
AreKept {G = G} start core log stage =
    HasComeBy start (cut_of_log log) (records_of_log log) core stage (anchored_by (anchor_of log)) [] × IsKept (geometry_of core) (size (G.history log.device)) log false (0, 0)

module _ {L V : Type 0} {G : disk.Ghosts L} {H : disk.Ghosts V} where
  -- Each pair of images that a loss of power may leave now, of log device and volume, stands for a prefix of the log with all that is durable, behind the anchor that counts in it: that of this
  -- state, or the one that a move from it makes.
  abbrev pub StandAll : World L V G H → CheckpointedState → Type 0
  StandAll w m = (log_image volume_image : List ℕ) → may_leave (history_in w) log_image → may_leave (volume_history_in w) volume_image
      → (anchor : Anchor) × MayBeAnchored m.store (anchored_by anchor) × (n : ℕ) × (pages : LoggedPages) × (durable_in w ≤ n) × (n ≤ last_in w)
      × StandsForBehind (geometry_in w) (size (history_in w)) (volume_bytes (geometry_in w)) anchor (take n m.state.log) pages log_image volume_image

  -- A world behind its threads, before which so many records of the log were cut off and these were kept. No record is lost: those, and what was logged since, are with its log device,
  -- but for what is cut off by now. Its core has come by this trail, what was asked and what that came to, from that beginning, and the world is
  -- at the state and the store of that very manager, gone on, whatever has failed.
  pub record HasEnded (start : Beginning) (cut : ℕ) (kept : List LogRecord) (asked : List (Asked × ℕ)) (stepped : List (Step × ℕ)) (w : World L V G H) : Type 0 where
    pub logged : List LogRecord
    pub gone : List LogRecord
    pub records : kept ++ logged ≡ gone ++ records_of_log w.log
    pub cut_off : cut_in w ≡ cut + length gone
    pub emptied : waiting_of w.core ≡ []
    pub come_by : HasComeBy start cut (gone ++ records_of_log w.log) w.core w.stage (anchored_by (anchor_in w)) (moves_of asked stepped)
    pub log_front : List ℕ
    pub log_labelled : IsLogFront (geometry_in w) (size (history_in w)) log_front
    pub at : IsAt w log_front come_by.front come_by.disk come_by.last.state come_by.last.store
