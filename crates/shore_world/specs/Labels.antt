-- The labels at the fronts of both devices, which stay as long as the manager is open.
use Rattle.std.specs.Prelude.{◌≡◌, ℕ, List, take}
use Rattle.shore_types.specs.declared.faults.Device.TheVariants.{Log, Volume}
use Rattle.shore_types.specs.declared.layout.Geometry.{Geometry}
use Rattle.shore_dwrite.specs.declared.places.TheConstants.{GATE_AT}
use Rattle.shore_fronts.specs.Fronts.{IsLogLength, log_label}
use Rattle.shore_fronts.specs.Volumes.{volume_bytes, volume_label}
use Rattle.shore_gate.specs.Label.{HoldsLabel}

-- the front of a log device of this length
pub record IsLogFront (g : Geometry) (log_bytes : ℕ) (front : List ℕ) : Type 0 where
  pub label : HoldsLabel Log log_bytes (take 512 front) (log_label g log_bytes)
  pub long : IsLogLength g.version log_bytes

-- the front of a volume, before its double-write area
pub record IsVolumeFront (g : Geometry) (front : List ℕ) : Type 0 where
  pub label : HoldsLabel Volume (volume_bytes g) (take 512 front) (volume_label g)
  pub whole : take GATE_AT front ≡ front
