-- What a pair of devices stands for behind an anchor: a log of which the frames give what is kept, and pages of a volume as the whole log speaks of them.
use Rattle.std.specs.Prelude.{◌≤◌, ◌-◌, ℕ, List, drop, length, take}
use Rattle.shore_types.specs.declared.faults.Device.TheVariants.{Log}
use Rattle.shore_types.specs.declared.layout.Geometry.{Geometry}
use Rattle.shore_types.specs.declared.layout.TheConstants.{LOG_FRONT_BYTES}
use Rattle.shore_gate.specs.Anchor.{Counts}
use Rattle.shore_gate.specs.Label.{HoldsLabel}
use Rattle.shore_gate.specs.declared.anchors.Anchor.{Anchor}
use Rattle.shore_gate.specs.declared.anchors.Slot.{Slot}
use Rattle.shore_model.specs.declared.log_records.LogRecord.{LogRecord}
use Rattle.shore_frames.specs.Frames.{GivesFrom}
use Rattle.shore_fronts.specs.Fronts.{IsLogLength, log_label}
use Rattle.laws_lives.specs.Pages.{LoggedPages}
use Rattle.laws_checkpoints.specs.Checkpoints.{Anchored, cut_of}
use Rattle.laws_runs.specs.CheckpointedStates.{MayBeOpenedBehind}
use Rattle.laws_images.specs.StandsFor.{VolumeStandsFor}

-- what the anchor says of the log: its checkpoint, and the first record that is kept
abbrev pub anchored_by : Anchor → Anchored
anchored_by anchor = record { checkpoint = anchor.checkpoint; tail = anchor.tail }

-- the records that are kept behind the anchor
abbrev pub kept_behind : Anchor → List LogRecord → List LogRecord
kept_behind anchor rs = drop (cut_of (anchored_by anchor)) rs

-- at the front the label is in order, and this anchor counts
pub record HasAnchor (g : Geometry) (device_bytes : ℕ) (anchor : Anchor) (image : List ℕ) : Type 0 where
  pub label : HoldsLabel Log device_bytes (take 512 image) (log_label g device_bytes)
  pub slot : Slot
  pub counts : Counts image slot anchor
  pub long : IsLogLength g.version device_bytes

-- The anchor counts, and from its tail on the frames give what is kept of a prefix of the list, which has so many records at least.
abbrev pub GivesKept : Anchor → ℕ → List LogRecord → List ℕ → Type 0
GivesKept anchor least rs image = (n : ℕ) × (least ≤ n) × (n ≤ length rs) × GivesFrom anchor.tail anchor.tail_place (kept_behind anchor (take n rs)) image

-- Stands for, whole: the front is in order, and the log gives just what is kept of these records; the volume shows these pages; and a restart may be handed both
-- behind the anchor.
pub record StandsForBehind (g : Geometry) (log_bytes volume_bytes : ℕ) (anchor : Anchor) (rs : List LogRecord) (pages : LoggedPages) (log_image volume_image : List ℕ) : Type 0 where
  pub front : HasAnchor g log_bytes anchor log_image
  pub log : GivesFrom anchor.tail anchor.tail_place (kept_behind anchor rs) log_image
  pub volume : VolumeStandsFor g volume_bytes rs pages volume_image
  pub opened : MayBeOpenedBehind g (log_bytes - LOG_FRONT_BYTES) (anchored_by anchor) rs pages
