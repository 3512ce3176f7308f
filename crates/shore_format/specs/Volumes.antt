-- A volume as a format leaves it: its label, a shut double-write area, and every page empty.
use Rattle.std.specs.Prelude.{◌≡◌, ℕ, ◌+◌, ◌-◌, List, [], ◌∷◌, length, take}
use Rattle.shore_types.specs.declared.faults.Device.TheVariants.{Volume}
use Rattle.shore_types.specs.declared.layout.Geometry.{Geometry}
use Rattle.shore_gate.specs.declared.gates.TheConstants.{CLOSED}
use Rattle.shore_gate.specs.Label.{HoldsLabel, label_bytes}
use Rattle.shore_dwrite.specs.declared.places.TheConstants.{GATE_AT}
use Rattle.shore_types.specs.Versions.{pages_begin}
use Rattle.shore_dwrite.specs.Shown.{IsShut}
use Rattle.shore_dwrite.specs.Volumes.{AreEmpty, page_at, part}
use Rattle.shore_fronts.specs.Volumes.{volume_bytes, volume_label}

-- its pages are empty, and the bytes before the pages are those of another image
pub record HasEmptyPages (g : Geometry) (before image : List ℕ) : Type 0 where
  pub long : length image ≡ length before
  pub front : take (pages_begin g.version) image ≡ take (pages_begin g.version) before
  pub empty : AreEmpty g (page_at g.version image)

-- An empty volume behind the gate of its label.
pub record IsEmptyBehind (g : Geometry) (behind : List ℕ) : Type 0 where
  pub long : 1 + length behind ≡ volume_bytes g
  pub label : take 511 behind ≡ label_bytes Volume (volume_label g)
  pub shut : part (GATE_AT - 1) 1 behind ≡ CLOSED ∷ []
  pub empty : (gate : ℕ) → AreEmpty g (page_at g.version (gate ∷ behind))

-- A volume as a format leaves it: the label of a device of this length is in order, the double-write area is shut, and every page is empty.
pub record IsEmptyVolume (g : Geometry) (device_bytes : ℕ) (image : List ℕ) : Type 0 where
  pub label : HoldsLabel Volume device_bytes (take 512 image) (volume_label g)
  pub shut : IsShut image
  pub empty : AreEmpty g (page_at g.version image)
