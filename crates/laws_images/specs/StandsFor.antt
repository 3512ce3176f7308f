-- What two devices stand for together: a log, and pages of a volume as that log speaks of them.
use Rattle.std.specs.Prelude.{◌≡◌, ◌-◌, ℕ, List, take}
use Rattle.shore_types.specs.declared.faults.Device.TheVariants.{Volume}
use Rattle.shore_types.specs.declared.layout.Geometry.{Geometry}
use Rattle.shore_types.specs.declared.layout.TheConstants.{LOG_FRONT_BYTES}
use Rattle.shore_disk.specs.Device.{DeviceHistory}
use Rattle.shore_gate.specs.Label.{HoldsLabel}
use Rattle.shore_model.specs.declared.log_records.LogRecord.{LogRecord}
use Rattle.shore_dwrite.specs.declared.places.TheConstants.{GATE_AT}
use Rattle.laws_lives.specs.Pages.{LoggedPages}
use Rattle.laws_runs.specs.SoundStores.{MayBeOpened, found_state}
use Rattle.laws_heaps.specs.LoggedHeaps.{LeavesStore}
use Rattle.shore_format.specs.Fronts.{LogStandsFor}
use Rattle.shore_fronts.specs.Volumes.{volume_label}
use Rattle.laws_images.specs.Moments.{Moment}

-- The volume's part of Stands for: its label is in order, and it shows these pages, be it behind an open double-write area.
pub record VolumeStandsFor (g : Geometry) (device_bytes : ℕ) (rs : List LogRecord) (pages : LoggedPages) (image : List ℕ) : Type 0 where
  pub label : HoldsLabel Volume device_bytes (take 512 image) (volume_label g)
  pub shows : LeavesStore rs g (take GATE_AT image) pages image

-- Stands for, whole but for checkpoints and transactions in doubt: the log gives just these records, the volume shows these pages, and a restart
-- may be handed both.
pub record StandsFor (g : Geometry) (log_bytes volume_bytes : ℕ) (rs : List LogRecord) (pages : LoggedPages) (log_image volume_image : List ℕ) : Type 0 where
  pub log : LogStandsFor g log_bytes rs log_image
  pub volume : VolumeStandsFor g volume_bytes rs pages volume_image
  pub opened : MayBeOpened g (log_bytes - LOG_FRONT_BYTES) rs pages

-- the images have the fronts of two others: label and anchors of the log, and the label of the volume
pub record HaveFrontsOf (log_image volume_image log_left volume_left : List ℕ) : Type 0 where
  pub log : take LOG_FRONT_BYTES log_left ≡ take LOG_FRONT_BYTES log_image
  pub volume : take GATE_AT volume_left ≡ take GATE_AT volume_image

-- an open begins: nothing of the log is redone yet
abbrev pub begun_on : DeviceHistory → DeviceHistory → List LogRecord → LoggedPages → Moment
begun_on log volume rs pages = record { log = log; volume = volume; store = found_state rs pages }
