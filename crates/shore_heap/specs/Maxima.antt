-- A tree of maxima in a list, and how far a search in it has come.
use Rattle.std.specs.Prelude.{◌≡◌, ℕ, ◌+◌, ◌*◌, ◌^◌, ◌<◌, ◌≤◌, max, List, length, slice_index, take, drop}
use Rattle.shore_types.specs.declared.layout.TheConstants.{MAX_PAGES, MAX_RECORD_BYTES}

-- an inner node is the greater of its two children
abbrev pub IsGreater : List ℕ → ℕ → Type 0
IsGreater tree node = slice_index tree node ≡ max (slice_index tree (2 * node)) (slice_index tree (2 * node + 1))

-- the inner nodes from 1 on, and behind them the leaves
pub record IsMaxima (tree : List ℕ) (leaves : ℕ) : Type 0 where
  pub whole : length tree ≡ 2 * leaves
  pub inner : (node : ℕ) → 1 ≤ node → node < leaves → IsGreater tree node

-- The first leaf of a node, which lies so many levels above it, is the first one or behind it. No leaf between them is above the number.
pub record IsReached (tree : List ℕ) (leaves first number node height : ℕ) : Type 0 where
  pub from : first ≤ node * 2 ^ height
  pub there : node * 2 ^ height < 2 * leaves
  pub passed : (leaf : ℕ) → first ≤ leaf → leaf < node * 2 ^ height → slice_index tree leaf ≤ number

-- the same, on some level
pub record Reaches (tree : List ℕ) (leaves first number node : ℕ) : Type 0 where
  pub height : ℕ
  pub reached : IsReached tree leaves first number node height

-- a leaf for each page, with its bound, and one more that is above them all
pub record IsGuarded (tree : List ℕ) (pages : ℕ) : Type 0 where
  pub maxima : IsMaxima tree (pages + 1)
  pub bounds : (page : ℕ) → page < pages → slice_index tree (pages + 1 + page) ≤ MAX_RECORD_BYTES + 1
  pub guard : slice_index tree (2 * pages + 1) ≡ 65535
  pub few : pages ≤ MAX_PAGES

-- the leaves of the pages
abbrev pub leaves_of : List ℕ → ℕ → List ℕ
leaves_of tree pages = take pages (drop (pages + 1) tree)
