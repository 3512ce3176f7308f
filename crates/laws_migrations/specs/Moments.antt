-- Any moment of a migration: what a loss of power may leave of its four devices.
use Rattle.std.specs.Prelude.{◌≡◌, ◌⊎◌, ℕ, List, [], ◌∷◌}
use Rattle.shore_types.specs.declared.layout.Geometry.{Geometry}
use Rattle.shore_disk.specs.Device.{DeviceHistory, left_since, may_leave, moment}
use Rattle.shore_gate.specs.declared.anchors.Anchor.{Anchor}
use Rattle.shore_model.specs.declared.log_records.LogRecord.{LogRecord}
use Rattle.laws_lives.specs.Pages.{LoggedPages}
use Rattle.shore_model.specs.declared.log_records.LogTxn.{LogTxn}
use Rattle.shore_model.specs.Records.{Records}
use Rattle.shore_frames.specs.Frames.{GivesFrom}
use Rattle.laws_images.specs.StandsBehind.{HasAnchor, StandsForBehind, anchored_by, kept_behind}
use Rattle.laws_images.specs.StandsFor.{VolumeStandsFor}
use Rattle.laws_migrations.specs.MigratedLogs.{MigratedDoubt, TellsTheSame, migrated_anchor, migrated_log}

-- the calls of the four devices so far
pub record FourDevices : Type 0 where
  pub old_log : DeviceHistory
  pub old_volume : DeviceHistory
  pub new_log : DeviceHistory
  pub new_volume : DeviceHistory

-- power is lost at some moment from the one to the other, of the old pair, and leaves these images
abbrev pub OldIsLeft : FourDevices → FourDevices → List ℕ → List ℕ → Type 0
OldIsLeft m n a b = left_since n.old_log (moment m.old_log) a × left_since n.old_volume (moment m.old_volume) b

-- .. of the new pair
abbrev pub NewIsLeft : FourDevices → FourDevices → List ℕ → List ℕ → Type 0
NewIsLeft m n c d = left_since n.new_log (moment m.new_log) c × left_since n.new_volume (moment m.new_volume) d

-- What a migration has to write, given that the log may be opened: the front has its anchor, the frames give what is kept of the migrated log, and the volume shows the pages.
pub record ShowsMigrated (g : Geometry) (log_bytes volume_bytes t : ℕ) (records : Records) (doubts : List MigratedDoubt) (txns : List LogTxn) (pages : LoggedPages) (log_image volume_image : List ℕ) : Type 0 where
  pub anchor : Anchor
  pub anchored : anchored_by anchor ≡ migrated_anchor t records doubts
  pub front : HasAnchor g log_bytes anchor log_image
  pub log : GivesFrom anchor.tail anchor.tail_place (kept_behind anchor (migrated_log t records doubts txns)) log_image
  pub volume : VolumeStandsFor g volume_bytes (migrated_log t records doubts txns) pages volume_image

-- the images are a pair that stands for a log that tells what this one does
abbrev pub StandsForTheSame : List LogRecord → Geometry → ℕ → ℕ → List ℕ → List ℕ → Type 0
StandsForTheSame told g log_bytes volume_bytes log_image volume_image =
    (anchor : Anchor) × (rs : List LogRecord) × (pages : LoggedPages) × TellsTheSame told rs × StandsForBehind g log_bytes volume_bytes anchor rs pages log_image volume_image

-- `OldStands` and `NewStands`: what is asked of images of a pair
module _ (OldStands NewStands : List ℕ → List ℕ → Type 0) where
  -- from one moment to the other the old pair stands, or the new one does, whatever is left of all four
  abbrev pub OneStands : FourDevices → FourDevices → Type 0
  OneStands m n = (a b c d : List ℕ) → OldIsLeft m n a b → NewIsLeft m n c d → OldStands a b ⊎ NewStands c d

  -- where no image of the old pair stands any more, the new one does: so the next open is of the old pair, or of the new one where the old one is not formatted
  abbrev pub NewWhereNotOld : FourDevices → FourDevices → Type 0
  NewWhereNotOld m n = (a b c d : List ℕ) → OldIsLeft m n a b → NewIsLeft m n c d → (OldStands a b → ⊥) → NewStands c d

  -- work on the new pair, with nothing but syncs and reads of the old one
  abbrev pub OldIsKept : FourDevices → FourDevices → Type 0
  OldIsKept m n = (a b : List ℕ) → OldIsLeft m n a b → OldStands a b

  -- work on the old pair, with nothing but syncs and reads of the new one
  abbrev pub NewIsKept : FourDevices → FourDevices → Type 0
  NewIsKept m n = (c d : List ℕ) → NewIsLeft m n c d → NewStands c d

  -- from the first moment through these to the last
  abbrev pub Way : (FourDevices → FourDevices → Type 0) → FourDevices → List FourDevices → FourDevices → Type 0
  Way Goes first [] last = last ≡ first
  Way Goes first (next ∷ later) last = Goes first next × Way Goes next later last

  -- A migration: the new pair is made while the old one is kept; then the old one's gate is closed while the new one is kept.
  pub record MigrationGoes (first last : FourDevices) : Type 0 where
    pub making : List FourDevices
    pub made : FourDevices
    pub closing : List FourDevices
    pub makes : Way OldIsKept first making made
    pub closes : Way NewIsKept made closing last
    pub now : (c d : List ℕ) → may_leave last.new_log c → may_leave last.new_volume d → NewStands c d
