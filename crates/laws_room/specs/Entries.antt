-- The claims that the entries of an undo list keep, each that of its slot before the change.
use Rattle.std.specs.Prelude.{◌++◌, ℕ, max, List, [], ◌∷◌}
use Rattle.shore_types.specs.Images.{Image, image_len}
use Rattle.shore_types.specs.declared.ids.Rid.{Rid}
use Rattle.shore_page.specs.Undo.{longest}
use Rattle.laws_room.specs.Claims.{befores_in}

-- the claim of an entry's slot before its change, behind the entries that came earlier
abbrev pub claim_before : List (Rid × Image) → Rid × Image → ℕ
claim_before earlier e = max (image_len e.1) (longest (befores_in e.0 earlier))

abbrev pub claims_behind : List (Rid × Image) → List (Rid × Image) → List ℕ
claims_behind earlier [] = []
claims_behind earlier (e ∷ es) = claim_before earlier e ∷ claims_behind (earlier ++ e ∷ []) es

-- for each entry of an undo list, the claim that its slot had before the change
abbrev pub claims_before : List (Rid × Image) → List ℕ
claims_before es = claims_behind [] es
