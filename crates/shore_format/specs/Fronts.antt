-- What a format writes at the front of a log device, what it leaves, and what the frames give behind the front.
use Rattle.std.specs.Prelude.{◌≡◌, ◌≢◌, ◌⊎◌, ℕ, List, [], ◌∷◌, ◌++◌, replicate}
use Rattle.shore_types.specs.declared.layout.Geometry.{Geometry}
use Rattle.shore_disk.specs.Device.{DeviceHistory, TornFrom}
use Rattle.shore_gate.specs.declared.gates.TheConstants.{OPEN, CLOSED}
use Rattle.shore_gate.specs.Anchor.{anchor_bytes}
use Rattle.shore_model.specs.declared.log_records.LogRecord.{LogRecord}
use Rattle.shore_frames.specs.Frames.{Gives}
use Rattle.shore_fronts.specs.Fronts.{HasFront, IsLogLength, first_anchor}

-- The log's part of Stands for: a device of a log's length, its front is in order, and the frames give just these records.
pub record LogStandsFor (g : Geometry) (device_bytes : ℕ) (rs : List LogRecord) (image : List ℕ) : Type 0 where
  pub front : HasFront g device_bytes image
  pub log : Gives rs image
  pub long : IsLogLength g.version device_bytes

-- ---- what a format writes and leaves

-- what stands behind the label: the first anchor, open; a closed anchor; and a closed gate where the stream begins
unfoldable pub behind_label : List ℕ
behind_label = replicate 512 0 ++ ((OPEN ∷ anchor_bytes first_anchor) ++ (replicate 984 0 ++ (CLOSED ∷ replicate 2047 0 ++ CLOSED ∷ [])))

-- the gate of the label is closed
abbrev pub IsShut : List ℕ → Type 0
IsShut image = (gate : ℕ) × (rest : List ℕ) × (gate ≢ OPEN) × (image ≡ gate ∷ rest)

-- A crash within a format leaves of a device what it could have left before, but for the gate of the label; or a closed gate, behind
-- which nothing counts; or what the format makes of it.
abbrev pub LeftByFormat : (List ℕ → Type 0) → DeviceHistory → List ℕ → Type 0
LeftByFormat Made old image = TornFrom 0 1 old image ⊎ IsShut image ⊎ Made image
