-- Pairs of an id and bytes, whose bytes lie behind each other.
use Rattle.std.specs.Prelude.{◌≡◌, ◌≤◌, ℕ, zero, suc, List, [], ◌∷◌}
use Rattle.std.specs.List.{between}
use Rattle.shore_types.specs.declared.ids.Rid.{Rid}

-- the pairs whose bytes lie from a place on: of each its id, and where its bytes end
abbrev pub pairs_in : List ℕ → ℕ → List (Rid × ℕ) → List (Rid × List ℕ)
pairs_in bytes from [] = []
pairs_in bytes from (e ∷ rest) = (e.0, between from e.1 bytes) ∷ pairs_in bytes e.1 rest

-- the ends rise from a place on, and the last is at another
abbrev pub AreEnds : ℕ → List (Rid × ℕ) → ℕ → Type 0
AreEnds from [] last = from ≡ last
AreEnds from (e ∷ rest) last = (from ≤ e.1) × AreEnds e.1 rest last

-- where the bytes of the pair at an index begin
abbrev pub begin_in : ℕ → List (Rid × ℕ) → ℕ → ℕ
begin_in from ends zero = from
begin_in from [] (suc index) = from
begin_in from (e ∷ rest) (suc index) = begin_in e.1 rest index
