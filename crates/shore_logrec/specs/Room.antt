-- Bytes that are put into room which was reserved for them.
use Rattle.std.specs.Prelude.{◌≡◌, ◌≤◌, ◌+◌, ◌++◌, ℕ, List, length, vec_len, vec_capacity}
use Rattle.std.specs.Global.{Vec}

-- n more bytes take no memory
abbrev pub HasRoom : Vec ℕ → ℕ → Type 0
HasRoom out n = vec_len out + n ≤ vec_capacity out

-- these bytes are at the end now, and no room was lost
pub record Puts (old new : Vec ℕ) (bytes : List ℕ) : Type 0 where
  pub items : new.items ≡ old.items ++ bytes
  pub len : vec_len new ≡ vec_len old + length bytes
  pub capacity : vec_capacity old ≤ vec_capacity new
