-- What a write to a part of some bytes leaves as it was.
use Rattle.std.specs.Prelude.{◌≡◌, ◌≢◌, ◌⊎◌, ℕ, ◌+◌, ◌<◌, ◌≤◌, List, length, slice_index}
use Rattle.std.specs.List.{between}
use Rattle.shore_types.specs.declared.versions.Version.{Version}
use Rattle.shore_page.specs.Text.{table_of, offset_at, length_at}

-- no byte changed but those between two places
pub record KeepsBeside (old new : List ℕ) (from to : ℕ) : Type 0 where
  pub len : length new ≡ length old
  pub below : (position : ℕ) → position < from → slice_index new position ≡ slice_index old position
  pub above : (position : ℕ) → to ≤ position → slice_index new position ≡ slice_index old position

-- these bytes are at an offset now, and nothing else changed
pub record Writes (old new : List ℕ) (position : ℕ) (written : List ℕ) : Type 0 where
  pub here : between position (position + length written) new ≡ written
  pub beside : KeepsBeside old new position (position + length written)

-- a record was put at an offset, and into the entry of its slot; no other entry changed, and no other byte below the slot table
pub record PutsRecord (v : Version) (old new : List ℕ) (slots slot offset : ℕ) (bytes : List ℕ) : Type 0 where
  pub len : length new ≡ length old
  pub begins : offset_at v new slot ≡ offset
  pub lasts : length_at v new slot ≡ length bytes
  pub here : between offset (offset + length bytes) new ≡ bytes
  pub entries : (other : ℕ) → other < slots → other ≢ slot → (offset_at v new other ≡ offset_at v old other) × (length_at v new other ≡ length_at v old other)
  pub beside : (position : ℕ) → position < table_of v slots → (position < offset) ⊎ (offset + length bytes ≤ position) → slice_index new position ≡ slice_index old position

-- the bytes of the header stayed as they were
pub record KeepsHeader (old new : List ℕ) : Type 0 where
  pub len : length new ≡ length old
  pub same : (position : ℕ) → position < 24 → slice_index new position ≡ slice_index old position

-- a slot's entry was written, and bytes from an offset up to the slot table: no other entry changed
pub record KeepsSlots (v : Version) (old new : List ℕ) (slots slot offset : ℕ) : Type 0 where
  pub len : length new ≡ length old
  pub entries : (other : ℕ) → other < slots → other ≢ slot → (offset_at v new other ≡ offset_at v old other) × (length_at v new other ≡ length_at v old other)
  pub below : (position : ℕ) → position < offset → slice_index new position ≡ slice_index old position
