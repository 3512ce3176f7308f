-- An index of frames, the oldest first.
use Rattle.std.specs.Prelude.{◌≡◌, ◌+◌, ◌*◌, ◌<◌, ◌≤◌, ◌&&◌, ◌++◌, ℕ, List, [], ◌∷◌, Bool, true, if◌then◌else◌, length, nat_le, nat_lt}
use Rattle.shore_types.specs.declared.layout.TheConstants.{LONGEST_FRAME}
use Rattle.shore_model.specs.declared.log_records.LogRecord.{LogRecord}
use Rattle.shore_frames.specs.declared.reading.FrameAt.{FrameAt}
use Rattle.shore_frames.specs.Frames.{number_behind}

-- where they begin: at the first of them, or where none is at what comes next
abbrev pub first_in : ℕ → List FrameAt → ℕ
first_in next [] = next
first_in next (f ∷ fs) = f.first

abbrev pub place_in : ℕ → List FrameAt → ℕ
place_in head [] = head
place_in head (f ∷ fs) = f.place

-- the last of them that begins no later than a record of this number, or the frame before them
abbrev pub frame_with : ℕ → FrameAt → List FrameAt → FrameAt
frame_with number at [] = at
frame_with number at (f ∷ fs) = if nat_le f.first number then frame_with number f fs else at

-- Each has a record at least, and the next one stands behind it, by 21 bytes a record or more; behind the last one the next is at the head with this number. No
-- place is further than the longest frames reach, one for each record before it.
abbrev pub AreListed : ℕ → ℕ → List FrameAt → Type 0
AreListed head next [] = Unit {0}
AreListed head next (f ∷ fs) = (f.first < first_in next fs) × (f.place + 21 * first_in next fs ≤ place_in head fs + 21 * f.first) × (f.place + LONGEST_FRAME ≤ LONGEST_FRAME * f.first) × AreListed head next fs

-- .. as a test
abbrev pub are_listed : ℕ → ℕ → List FrameAt → Bool
are_listed head next [] = true
are_listed head next (f ∷ fs) =
    nat_lt f.first (first_in next fs) && nat_le (f.place + 21 * first_in next fs) (place_in head fs + 21 * f.first) && nat_le (f.place + LONGEST_FRAME) (LONGEST_FRAME * f.first) && are_listed head next fs

-- so many of these groups stand before the one that has the record of this number
pub record IsInGroup (tail : ℕ) (groups : List (List LogRecord)) (number count : ℕ) : Type 0 where
  pub before : List (List LogRecord)
  pub group : List LogRecord
  pub after : List (List LogRecord)
  pub parts : groups ≡ before ++ group ∷ after
  pub count_is : count ≡ length before
  pub first : number_behind tail before ≤ number
  pub last : number < number_behind tail before + length group

-- as many of these groups as lie wholly below a number, and the number behind them
pub record AreBelow (tail : ℕ) (groups : List (List LogRecord)) (number : ℕ) (before : List (List LogRecord)) (next : ℕ) : Type 0 where
  pub after : List (List LogRecord)
  pub parts : groups ≡ before ++ after
  pub next_is : next ≡ number_behind tail before
  pub below : next ≤ number
  pub most : (g : List LogRecord) (later : List (List LogRecord)) → after ≡ g ∷ later → number < next + length g
