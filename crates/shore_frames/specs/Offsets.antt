-- What stands so far behind the begin of some bytes, as of a stream that is seen from a place, and which byte of the device is told of it.
use Rattle.std.specs.Prelude.{◌≡◌, ◌≢◌, ◌⊎◌, ◌↔◌, ℕ, ◌+◌, ◌<◌, ◌≤◌, Bool, IsTrue, List, ◌∷◌, ◌++◌, length, drop}
use Rattle.shore_gate.specs.declared.gates.TheConstants.{OPEN}
use Rattle.shore_types.specs.declared.faults.Device.TheVariants.{Log}
use Rattle.shore_types.specs.declared.layout.TheConstants.{FRAME_SHARE}
use Rattle.shore_types.specs.declared.faults.Fault.{Fault}
use Rattle.shore_types.specs.declared.faults.Fault.TheVariants.{Device, Memory, Damaged}
use Rattle.shore_model.specs.declared.log_records.LogRecord.{LogRecord}
use Rattle.shore_logrec.specs.Text.{texts}
use Rattle.shore_frames.specs.declared.reading.Head.{Head}
use Rattle.shore_frames.specs.Frames.{IsGroup, AreGroups, frame_head, behind_gate, text, number_behind}
use Rattle.shore_frames.specs.Places.{byte_of, from_place, stream_of}

-- a gate, and whether it is open
abbrev pub GateAt : List ℕ → ℕ → Bool → Type 0
GateAt bytes at is_open = (gate : ℕ) × (drop at bytes ≡ gate ∷ drop (at + 1) bytes) × (IsTrue is_open ↔ (gate ≡ OPEN))

-- this head, behind the gate there
abbrev pub HeadAt : List ℕ → ℕ → Head → Type 0
HeadAt bytes at head = drop (at + 1) bytes ≡ frame_head head.len head.first ++ drop (at + FRAME_SHARE) bytes

-- the head of a frame with this body and this first number, and the body, behind the gate there
abbrev pub BodyAt : List ℕ → ℕ → ℕ → List ℕ → Type 0
BodyAt bytes at n body = drop (at + 1) bytes ≡ behind_gate n body ++ drop (at + FRAME_SHARE + length body) bytes

-- a frame of these records and of no others, behind the gate there
pub record IsFrameAt (bytes : List ℕ) (at n : ℕ) (g : List LogRecord) : Type 0 where
  pub stands : BodyAt bytes at n (texts g)
  pub only : (other : List LogRecord) (rest : List ℕ) → IsGroup n other → drop (at + 1) bytes ≡ behind_gate n (texts other) ++ rest → g ≡ other

-- no frame with a byte after it, behind the gate there
abbrev pub HasNoFrame : List ℕ → ℕ → ℕ → Type 0
HasNoFrame bytes at n = (g : List LogRecord) (rest : List ℕ) → IsGroup n g → 1 ≤ length rest → drop (at + 1) bytes ≡ behind_gate n (texts g) ++ rest → ⊥

-- ---- where a device is no log's

-- neither a closed gate nor a frame stands at the front, where the next record has the number n
pub record NoneStands (n : ℕ) (bytes : List ℕ) : Type 0 where
  pub no_gate : (gate : ℕ) (rest : List ℕ) → gate ≢ OPEN → bytes ≡ gate ∷ rest → ⊥
  pub no_frame : (g : List LogRecord) (rest : List ℕ) → IsGroup n g → 1 ≤ length rest → bytes ≡ OPEN ∷ (behind_gate n (texts g) ++ rest) → ⊥

-- From the tail at a place on stand the frames of some groups, and behind them, at this byte of the device, neither a closed gate nor a frame.
pub record IsBadAt (tail place : ℕ) (image : List ℕ) (offset : ℕ) : Type 0 where
  pub front : List (List LogRecord)
  pub rest : List ℕ
  pub groups : AreGroups tail front
  pub parts : from_place place (stream_of image) ≡ text tail front ++ rest
  pub offset_is : offset ≡ byte_of (length (stream_of image)) (place + length (text tail front))
  pub bad : NoneStands (number_behind tail front) rest

-- ---- where a record stands

-- From the tail at a place on stand frames of some groups, and one of them at this byte of the device: behind those of the groups before, with the
-- record of this number among its own.
pub record IsFrameOf (tail place : ℕ) (image : List ℕ) (number offset : ℕ) : Type 0 where
  pub before : List (List LogRecord)
  pub group : List LogRecord
  pub after : List (List LogRecord)
  pub rest : List ℕ
  pub groups : AreGroups tail (before ++ group ∷ after)
  pub parts : from_place place (stream_of image) ≡ text tail (before ++ group ∷ after) ++ rest
  pub offset_is : offset ≡ byte_of (length (stream_of image)) (place + length (text tail before))
  pub first : number_behind tail before ≤ number
  pub last : number < number_behind tail before + length group

-- what a log device's bytes are not read with: the device failed, memory ran out, or the log is damaged
abbrev pub RefusesReading : Fault → Type 0
RefusesReading fault = (fault ≡ Device) ⊎ (fault ≡ Memory) ⊎ ((offset : ℕ) × (fault ≡ Damaged Log offset))
