-- What a page's slot table says: which entries it may have, and the images that they name.
use Rattle.std.specs.Prelude.{◌≡◌, ◌⊎◌, ◌==◌, ℕ, ◌+◌, ◌-◌, ◌/◌, ◌%◌, ◌<◌, ◌≤◌, Bool, false, true, List, length, map, get_or, slice_index, None, Some, if◌then◌else◌}
use Rattle.std.specs.List.{between, count_by, range_with_len}
use Rattle.std.specs.Int.{bit_at}
use Rattle.shore_types.specs.declared.versions.Version.{Version}
use Rattle.shore_types.specs.Images.{Image}
use Rattle.shore_types.specs.Versions.{record_limit}
use Rattle.shore_page.specs.Text.{table_of, offset_at, length_at, Covers}

-- so many bytes at an offset lie between the header and the slot table, and may be a record
pub record Lies (v : Version) (table offset bytes : ℕ) : Type 0 where
  pub behind_header : 24 ≤ offset
  pub before_table : offset + bytes ≤ table
  pub most : bytes ≤ record_limit v

-- the entry of a slot: zeros, or that of a record
abbrev pub IsEntry : Version → ℕ → ℕ → ℕ → Type 0
IsEntry v table offset bytes = ((offset ≡ 0) × (bytes ≡ 0)) ⊎ Lies v table offset bytes

-- an entry whose record begins at an end of records or behind it, and where the records end with it
pub record Follows (v : Version) (table end offset bytes new : ℕ) : Type 0 where
  pub entry : IsEntry v table offset bytes
  pub behind : (position : ℕ) → offset ≤ position → position < offset + bytes → end ≤ position
  pub room : end + bytes ≤ new
  pub ends : offset + bytes ≤ new
  pub back : end ≤ table → new ≤ table

-- each entry of the slot table is one, and no byte belongs to two records
pub record IsTable (v : Version) (bytes : List ℕ) (slots : ℕ) : Type 0 where
  pub each : (slot : ℕ) → slot < slots → IsEntry v (table_of v slots) (offset_at v bytes slot) (length_at v bytes slot)
  pub apart : (a b position : ℕ) → a < slots → b < slots → Covers v bytes a position → Covers v bytes b position → a ≡ b

-- what the entry of a slot names
unfoldable pub slot_image : Version → List ℕ → ℕ → Image
slot_image v bytes slot = if offset_at v bytes slot == 0
    then None
    else Some (between (offset_at v bytes slot) (offset_at v bytes slot + length_at v bytes slot) bytes)

-- what is in the first slots
abbrev pub images_in : Version → List ℕ → ℕ → List Image
images_in v bytes slots = map (slot_image v bytes) (range_with_len 0 slots)

-- how many are marked
abbrev pub marked : List Bool → ℕ
marked marks = count_by (λ m. m) marks

-- a mark: bit after bit of words, the lowest first
abbrev pub mark_at : List ℕ → ℕ → ℕ
mark_at words position = bit_at (slice_index words (position / 64)) (position % 64)

-- the first marks of some words
abbrev pub marks_of : List ℕ → ℕ → List Bool
marks_of words count = map (λ position. mark_at words position == 1) (range_with_len 0 count)

-- bits of words were marked that had no mark, and no other
pub record MarksBits (old new : List ℕ) (from to : ℕ) : Type 0 where
  pub len : length new ≡ length old
  pub inside : (position : ℕ) → from ≤ position → position < to → (mark_at old position ≡ 0) × (mark_at new position ≡ 1)
  pub below : (position : ℕ) → position < from → mark_at new position ≡ mark_at old position
  pub above : (position : ℕ) → to ≤ position → mark_at new position ≡ mark_at old position

-- places were marked that had no mark, and no other
pub record Marks (old new : List Bool) (from to : ℕ) : Type 0 where
  pub len : length new ≡ length old
  pub inside : (position : ℕ) → from ≤ position → position < to → (get_or old position false ≡ false) × (get_or new position false ≡ true)
  pub below : (position : ℕ) → position < from → get_or new position false ≡ get_or old position false
  pub above : (position : ℕ) → to ≤ position → get_or new position false ≡ get_or old position false
  pub count : marked new ≡ marked old + (to - from)

-- a place of these is marked
abbrev pub IsTaken : List Bool → ℕ → ℕ → Type 0
IsTaken marks from to = (position : ℕ) × (from ≤ position) × (position < to) × (get_or marks position false ≡ true)
