-- A log in a stream that is a ring: where it is settled, and what a write at a place makes of the stream.
use Rattle.std.specs.Prelude.{◌≡◌, ◌≢◌, ℕ, ◌+◌, ◌-◌, ◌%◌, List, [], ◌∷◌, ◌++◌, length, take, drop, if◌then◌else◌, nat_le}
use Rattle.shore_types.specs.declared.layout.TheConstants.{LOG_FRONT_BYTES}
use Rattle.shore_disk.specs.Device.{DeviceHistory, Stands, overwritten}
use Rattle.shore_gate.specs.declared.gates.TheConstants.{OPEN}
use Rattle.shore_model.specs.declared.log_records.LogRecord.{LogRecord}
use Rattle.shore_frames.specs.Frames.{AreGroups, text}
use Rattle.shore_frames.specs.Places.{from_place, stream_of}

-- The stream from the tail on: the frames of these groups, a closed gate, and bytes that count for nothing, be they of earlier turns.
pub record IsRing (stream : List ℕ) (tail place : ℕ) (groups : List (List LogRecord)) : Type 0 where
  pub gate : ℕ
  pub rest : List ℕ
  pub shut : gate ≢ OPEN
  pub are : AreGroups tail groups
  pub stands : from_place place stream ≡ text tail groups ++ gate ∷ rest

-- ---- writes

-- a write at a place: one, or two where the ring's end lies between
abbrev pub written_at : ℕ → List ℕ → List ℕ → List ℕ
written_at place bytes stream =
    if nat_le (place % length stream + length bytes) (length stream) then overwritten stream (place % length stream) bytes
    else overwritten (overwritten stream (place % length stream) (take (length stream - place % length stream) bytes)) 0 (drop (length stream - place % length stream) bytes)

-- These bytes stand at the place, and all others are as they were.
pub record IsRingWritten (place : ℕ) (bytes old new : List ℕ) : Type 0 where
  pub front : take LOG_FRONT_BYTES new ≡ take LOG_FRONT_BYTES old
  pub as_long : length new ≡ length old
  pub seen : from_place place (stream_of new) ≡ bytes ++ drop (length bytes) (from_place place (stream_of old))

-- A write of n bytes at a place that a crash cuts short, or that was not begun: any bytes stand in its range, on both sides of the ring's end.
abbrev pub TornRing : ℕ → ℕ → List ℕ → List ℕ → Type 0
TornRing place n old new = (bytes : List ℕ) × (length bytes ≡ n) × IsRingWritten place bytes old new

-- these bytes are on the device, written at a place, and a crash leaves nothing else
abbrev pub StandsWritten : DeviceHistory → ℕ → List ℕ → List ℕ → Type 0
StandsWritten new place bytes old = (image : List ℕ) × Stands new image × IsRingWritten place bytes old image

-- .. and a byte at another place, of which any stands there
abbrev pub TornBoth : ℕ → ℕ → ℕ → List ℕ → List ℕ → Type 0
TornBoth place n gate_place old new = (mid : List ℕ) × TornRing place n old mid × TornRing gate_place 1 mid new

-- these bytes and this byte are on the device, written at two places, and a crash leaves nothing else
abbrev pub StandsBothWritten : DeviceHistory → ℕ → List ℕ → ℕ → ℕ → List ℕ → Type 0
StandsBothWritten new place bytes gate_place gate old =
    (mid : List ℕ) × (image : List ℕ) × Stands new image × IsRingWritten place bytes old mid × IsRingWritten gate_place (gate ∷ []) mid image
