-- Frames: the records of a log in groups, each behind a gate of its own, and a closed gate behind the last.
use Rattle.std.specs.Prelude.{◌≡◌, ◌≢◌, ◌⊎◌, ℕ, ◌+◌, ◌<◌, ◌≤◌, List, [], ◌∷◌, ◌++◌, length, take}
use Rattle.std.specs.List.{flat_map}
use Rattle.shore_types.specs.declared.layout.TheConstants.{LOG_FRONT_BYTES, MAX_FRAME_BYTES}
use Rattle.byteorder.specs.Endian.{little_bytes}
use Rattle.shore_gate.specs.declared.gates.TheConstants.{OPEN}
use Rattle.shore_model.specs.declared.log_records.LogRecord.{LogRecord}
use Rattle.shore_logrec.specs.Text.{Fits, texts}
use Rattle.shore_frames.specs.Places.{from_place, stream_of}

-- each record has a text, and names a record below its own number as the one before
abbrev pub AreNumbered : ℕ → List LogRecord → Type 0
AreNumbered n [] = Unit {0}
AreNumbered n (r ∷ rs) = Fits r × (r.previous < n) × AreNumbered (n + 1) rs

-- what one frame may hold, where its first record has the number n: their texts have 1 to 65,536 bytes
pub record IsGroup (n : ℕ) (rs : List LogRecord) : Type 0 where
  pub numbered : AreNumbered n rs
  pub some : 1 ≤ length (texts rs)
  pub most : length (texts rs) ≤ MAX_FRAME_BYTES

-- the length of a frame's body, and the number of its first record
unfoldable pub frame_head : ℕ → ℕ → List ℕ
frame_head len n = little_bytes 4 len ++ little_bytes 8 n

-- what stands behind the gate of a frame whose first record has the number n: the head, and the body
unfoldable pub behind_gate : ℕ → List ℕ → List ℕ
behind_gate n body = frame_head (length body) n ++ body

-- Frames. These bytes are frames of these groups, the first record of this number: a closed gate, or an open one with a
-- frame behind it, and then the rest, which has a byte at least.
abbrev pub Frames : ℕ → List ℕ → List (List LogRecord) → Type 0
Frames n bytes [] = (gate : ℕ) × (rest : List ℕ) × (gate ≢ OPEN) × (bytes ≡ gate ∷ rest)
Frames n bytes (g ∷ gs) =
    (rest : List ℕ) × IsGroup n g × (1 ≤ length rest) × (bytes ≡ OPEN ∷ (behind_gate n (texts g) ++ rest))
    × Frames (n + length g) rest gs

-- the records of all groups
abbrev pub joined : List (List LogRecord) → List LogRecord
joined gs = flat_map (λ g. g) gs

-- Read from a tail on, where the first record has this number: the frames of this image of the device, from this place once around the ring, give
-- these records. The frames with the byte behind them end within the stream's length.
abbrev pub GivesFrom : ℕ → ℕ → List LogRecord → List ℕ → Type 0
GivesFrom tail place rs image = (gs : List (List LogRecord)) × Frames tail (from_place place (stream_of image)) gs × (rs ≡ joined gs)

-- .. behind this front of 4,096 bytes, which no frame reaches
abbrev pub GivesBehindFrom : List ℕ → ℕ → ℕ → List LogRecord → List ℕ → Type 0
GivesBehindFrom front tail place rs image = (take LOG_FRONT_BYTES image ≡ front) × GivesFrom tail place rs image

-- .. with one group more, or without it
abbrev pub GivesWithOrWithoutFrom : List ℕ → ℕ → ℕ → List LogRecord → List LogRecord → List ℕ → Type 0
GivesWithOrWithoutFrom front tail place rs more image = GivesBehindFrom front tail place rs image ⊎ GivesBehindFrom front tail place (rs ++ more) image

-- ---- a log that nothing was cut from: its first record has number 1, and its first frame is at place 0

abbrev pub Gives : List LogRecord → List ℕ → Type 0
Gives rs image = GivesFrom 1 0 rs image

abbrev pub GivesBehind : List ℕ → List LogRecord → List ℕ → Type 0
GivesBehind front rs image = GivesBehindFrom front 1 0 rs image

abbrev pub GivesWithOrWithout : List ℕ → List LogRecord → List LogRecord → List ℕ → Type 0
GivesWithOrWithout front rs more image = GivesWithOrWithoutFrom front 1 0 rs more image

-- ---- the next frame

-- the first so many of these records fit one frame, and one more would not
pub record IsLongest (rs : List LogRecord) (count : ℕ) : Type 0 where
  pub within : count ≤ length rs
  pub fits : length (texts (take count rs)) ≤ MAX_FRAME_BYTES
  pub longest : (count ≡ length rs) ⊎ (MAX_FRAME_BYTES < length (texts (take (count + 1) rs)))

-- ---- the bytes of some frames, as one text

-- the text of frames with open gates
abbrev pub text : ℕ → List (List LogRecord) → List ℕ
text n [] = []
text n (g ∷ gs) = OPEN ∷ (behind_gate n (texts g) ++ text (n + length g) gs)

-- the number behind the last of these groups' records
abbrev pub number_behind : ℕ → List (List LogRecord) → ℕ
number_behind n [] = n
number_behind n (g ∷ gs) = number_behind (n + length g) gs

-- each is what a frame may hold
abbrev pub AreGroups : ℕ → List (List LogRecord) → Type 0
AreGroups n [] = Unit {0}
AreGroups n (g ∷ gs) = IsGroup n g × AreGroups (n + length g) gs
