-- The texts of new nodes.
use Rattle.std.proofs.Common.{◌≡◌, ℕ, ◌<◌, ◌≤◌, ◌^◌, List, [], ◌∷◌, ◌++◌, length, true, false, Option, Some, None, refl, sym, ap, subst, ◌∙◌, arith}
use Rattle.std.specs.Prelude.{nat_lt, option_map}
use Rattle.std.proofs.lemmas.Bool.{le-ltb}
use Rattle.byteorder.specs.Endian.{little_bytes, little_number}
use Rattle.shore_keys.specs.Nodes.{◌>>=◌, Entry, Fits, Front, Node, as_right, entries_at, entry_text, front_at, node_at, number_at, right_at}
use Rattle.shore_keys.specs.Trees.{Spot}
use Rattle.shore_keys.proofs.Fronts.{node-text}
use Rattle.shore_keys.proofs.Spelling.{spelled, spells-entry}

-- a front with no right neighbour
plain-front : (level n : ℕ) (body : List ℕ) → front_at (level ∷ 0 ∷ n ∷ 0 ∷ body) ≡ Some (record { level = level; right = None; count = n; body = body })
unfolding front_at number_at right_at
plain-front level n body =
    let long : nat_lt (length (n ∷ 0 ∷ body)) 2 ≡ false = le-ltb _ _ (omega arith) in
    let number : little_number 2 (n ∷ 0 ∷ body) ≡ n = omega arith in
    rw (long, number) refl

pub empty-leaf : (rest : List ℕ) → node_at ((0 ∷ 0 ∷ 0 ∷ 0 ∷ []) ++ rest) ≡ Some (record { level = 0; right = None; entries = [] })
empty-leaf rest = node-text ((0 ∷ 0 ∷ 0 ∷ 0 ∷ []) ++ rest) (record { level = 0; right = None; count = 0; body = rest }) [] (plain-front 0 0 rest) refl

pub one-entry : (level : ℕ) (e : Entry) (rest : List ℕ) → Fits e → node_at (((level ∷ 0 ∷ 1 ∷ 0 ∷ []) ++ entry_text e) ++ rest) ≡ Some (record { level = level; right = None; entries = e ∷ [] })
one-entry level e rest fits =
    node-text (((level ∷ 0 ∷ 1 ∷ 0 ∷ []) ++ entry_text e) ++ rest) (record { level = level; right = None; count = 1; body = entry_text e ++ rest }) (e ∷ []) (plain-front level 1 (entry_text e ++ rest)) (spelled (entry_text e) (e ∷ []) rest (spells-entry e fits))
