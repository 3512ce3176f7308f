-- The table of the double-write area: which pages it has images of.
use Rattle.std.specs.Prelude.{◌≡◌, ℕ, ◌+◌, ◌*◌, ◌<◌, ◌≤◌, List, length, take, drop, slice_get, Some}
use Rattle.byteorder.specs.Endian.{little_number}
use Rattle.shore_types.specs.declared.layout.TheConstants.{MAX_BATCH_PAGES}
use Rattle.shore_dwrite.specs.declared.places.TheConstants.{TABLE_BYTES}

-- a table is cells of four bytes, each with a number
abbrev pub cell : ℕ → List ℕ → ℕ
cell i table = little_number 4 (take 4 (drop (4 * i) table))

-- the bytes are the table of these pages: their count, their numbers, and zeros
pub record IsTable (table numbers : List ℕ) : Type 0 where
  pub whole : length table ≡ TABLE_BYTES
  pub count : cell 0 table ≡ length numbers
  pub entries : (i k : ℕ) → slice_get numbers i ≡ Some k → cell (i + 1) table ≡ k
  pub unused : (i : ℕ) → length numbers ≤ i → i < MAX_BATCH_PAGES → cell (i + 1) table ≡ 0
