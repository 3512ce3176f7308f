-- The two parts of Stands for behind an anchor, each known by itself, as where log and volume lie under locks of their own.
use Rattle.std.specs.Prelude.{◌-◌, ℕ, List, length}
use Rattle.shore_types.specs.declared.layout.Geometry.{Geometry}
use Rattle.shore_types.specs.declared.layout.TheConstants.{LOG_FRONT_BYTES}
use Rattle.shore_frames.specs.Frames.{GivesFrom}
use Rattle.shore_gate.specs.declared.anchors.Anchor.{Anchor}
use Rattle.shore_model.specs.declared.log_records.LogRecord.{LogRecord}
use Rattle.shore_model.specs.Logs.{Lawful}
use Rattle.laws_lives.specs.Doubts.{DoubtsStand}
use Rattle.laws_lives.specs.Pages.{AreAsOfOwnNumbers, LoggedPages}
use Rattle.laws_checkpoints.specs.Checkpoints.{IsAnchoredRight, cut_of}
use Rattle.laws_checkpoints.specs.RecoveryNumbers.{EndsListChanges}
use Rattle.laws_runs.specs.CheckpointSteps.{log_limit}
use Rattle.laws_runs.specs.RoomyLogs.{AreRoomy}
use Rattle.laws_images.specs.StandsBehind.{HasAnchor, anchored_by, kept_behind}
use Rattle.laws_images.specs.StandsFor.{VolumeStandsFor}

-- The volume's part, whatever is on the log device: it shows these pages, each is as of its own number in this list, and the anchor is right of them.
pub record VolumeStandsBehind (g : Geometry) (volume_bytes : ℕ) (anchor : Anchor) (rs : List LogRecord) (pages : LoggedPages) (image : List ℕ) : Type 0 where
  pub shows : VolumeStandsFor g volume_bytes rs pages image
  pub as_of : AreAsOfOwnNumbers rs pages
  pub anchored : IsAnchoredRight rs (length rs) pages pages (anchored_by anchor)

-- The log's part, whatever is on the volume: the anchor counts, and the log gives what is kept of this list. The list is lawful, and each End in it lists pages that records
-- before its begin change; those in doubt stand beside each other; and there is room for its undo.
pub record LogStandsBehind (g : Geometry) (log_bytes : ℕ) (anchor : Anchor) (rs : List LogRecord) (image : List ℕ) : Type 0 where
  pub front : HasAnchor g log_bytes anchor image
  pub gives : GivesFrom anchor.tail anchor.tail_place (kept_behind anchor rs) image
  pub lawful : Lawful rs
  pub ends : EndsListChanges rs
  pub doubts : DoubtsStand rs
  pub roomy : AreRoomy g (log_limit (log_bytes - LOG_FRONT_BYTES) (cut_of (anchored_by anchor)) rs) (length rs) rs
