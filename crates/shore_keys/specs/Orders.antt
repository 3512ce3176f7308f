-- The order of keys: byte by byte, and the shorter one first if it is the front of the other.
use Rattle.std.specs.Prelude.{◌≡◌, ℕ, List, Bool, true, false}
use Rattle.std.specs.Ordering.{is_lt, nat_cmp}
use Rattle.std.specs.Cmp.Lexicographic.{slice_cmp}

-- one key comes before the other
unfoldable pub is_before : List ℕ → List ℕ → Bool
is_before a b = is_lt (slice_cmp nat_cmp a b)

-- the first is not above the second
abbrev pub IsUpTo : List ℕ → List ℕ → Type 0
IsUpTo a b = is_before b a ≡ false
