-- The frames of a pool, each found by the number of its page on the volume.
use Rattle.std.specs.Prelude.{◌≡◌, ℕ, List, Option, None, Some, slice_index_or, option_map}
use Rattle.std.specs.Option.{option_and_then}
use Rattle.slab.specs.Slab.{Slab, get}
use Rattle.shore_pool.specs.declared.frame.Frame.{Frame}

-- under which key the frame of a page is
abbrev pub key_at : List (Option ℕ) → ℕ → Option ℕ
key_at table k = slice_index_or table k None

-- the frame of a page
abbrev pub frame_in : Slab Frame → List (Option ℕ) → ℕ → Option Frame
frame_in slots table k = option_and_then (get slots) (key_at table k)

-- the number of the page in the frame of a key
abbrev pub number_in : Slab Frame → ℕ → Option ℕ
number_in slots key = option_map (λ f. f.number) (get slots key)

-- the table has each frame under the number of its page, and no other
pub record IsIndexed (slots : Slab Frame) (table : List (Option ℕ)) : Type 0 where
  pub listed : (key k : ℕ) → number_in slots key ≡ Some k → key_at table k ≡ Some key
  pub there : (key k : ℕ) → key_at table k ≡ Some key → number_in slots key ≡ Some k
