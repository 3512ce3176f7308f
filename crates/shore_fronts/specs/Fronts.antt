-- What stands at the front of a log device.
use Rattle.std.specs.Prelude.{◌≤◌, ℕ, List, take}
use Rattle.shore_types.specs.declared.faults.Device.TheVariants.{Log}
use Rattle.shore_types.specs.declared.layout.Geometry.{Geometry}
use Rattle.shore_types.specs.declared.layout.TheConstants.{MAX_LOG_BYTES}
use Rattle.shore_types.specs.declared.versions.Version.{Version}
use Rattle.shore_types.specs.Versions.{least_log}
use Rattle.shore_gate.specs.declared.anchors.Anchor.{Anchor}
use Rattle.shore_gate.specs.declared.anchors.Slot.{Slot}
use Rattle.shore_gate.specs.declared.labels.Label.{Label}
use Rattle.shore_gate.specs.Label.{HoldsLabel}
use Rattle.shore_gate.specs.Anchor.{Counts}

-- a log device of this version may be so long
abbrev pub IsLogLength : Version → ℕ → Type 0
IsLogLength v device_bytes = (least_log v ≤ device_bytes) × (device_bytes ≤ MAX_LOG_BYTES)

-- the label of a log device of this length
abbrev pub log_label : Geometry → ℕ → Label
log_label g device_bytes = record { version = g.version; pair = g.pair; length = device_bytes; max_locks = g.max_locks; stores = g.stores }

-- the anchor of a log that is read from its first record on, and has no checkpoint
abbrev pub first_anchor : Anchor
first_anchor = record { sequence = 1; checkpoint = 0; tail = 1; tail_place = 0 }

-- the label stands at the front, and the first anchor counts
pub record HasFront (g : Geometry) (device_bytes : ℕ) (image : List ℕ) : Type 0 where
  pub label : HoldsLabel Log device_bytes (take 512 image) (log_label g device_bytes)
  pub slot : Slot
  pub anchor : Counts image slot first_anchor
