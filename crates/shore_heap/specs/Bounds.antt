-- What a free space map says of the pages of a store.
use Rattle.std.specs.Prelude.{ℕ, ◌<◌, ◌≤◌, List, length, slice_index}

-- No record of so many bytes, or more, finds room in a page, as far as is known; none does in a page that is not there.
abbrev pub bound_at : List ℕ → ℕ → ℕ
bound_at bounds page = slice_index bounds page

-- the lowest page from one on that may have room for so many bytes
pub record IsFirst (bounds : List ℕ) (page bytes found : ℕ) : Type 0 where
  pub from : page ≤ found
  pub there : found < length bounds
  pub room : bytes < bound_at bounds found
  pub passed : (other : ℕ) → page ≤ other → other < found → bound_at bounds other ≤ bytes
