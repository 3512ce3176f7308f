-- A leaf that is cut in two.
use Rattle.std.specs.Prelude.{◌≡◌, ◌≢◌, ◌-◌, ◌/◌, ◌<◌, ◌≤◌, ℕ, List, [], ◌∷◌, ◌++◌, Option, None, Some, Result, Ok, Err, length}
use Rattle.shore_keys.specs.declared.halving.Halves.{Halves}
use Rattle.shore_keys.specs.declared.refusals.Refusal.{Refusal}
use Rattle.shore_keys.specs.declared.refusals.Refusal.TheVariants.{Damaged}
use Rattle.shore_keys.specs.Cuts.{Spells}
use Rattle.shore_keys.specs.Nodes.{Entry, Node, entries_at, node_at}

-- half of the entries are in front: the entries are those in front, this one, and others, whose bytes with it are the rest
pub record IsMiddleAt (count : ℕ) (body : List ℕ) (es : List Entry) (at : ℕ) (rest : List ℕ) (e : Entry) : Type 0 where
  pub front : List Entry
  pub others : List Entry
  pub all : es ≡ front ++ e ∷ others
  pub count_is : length front ≡ at
  pub few : at ≤ count
  pub two : 2 ≤ count
  pub half : at ≡ count / 2
  pub bytes : List ℕ
  pub is : body ≡ bytes ++ rest
  pub spelled : Spells bytes front
  pub left : entries_at (count - at) rest ≡ Some (e ∷ others)

abbrev pub IsMiddle : ℕ → List ℕ → List Entry → Option (ℕ × List ℕ × Entry) → Type 0
IsMiddle count body es None = count < 2
IsMiddle count body es (Some x) = IsMiddleAt count body es x.0 x.1 x.2

-- the key of the entry that half of them are in front of
abbrev pub IsMiddleKey : List Entry → Option (List ℕ) → Type 0
IsMiddleKey es None = length es < 2
IsMiddleKey es (Some key) = (front : List Entry) × (e : Entry) × (others : List Entry) × (es ≡ front ++ e ∷ others) × (length front ≡ length es / 2) × (key ≡ e.0)

-- half of the entries are in front; the right half is read as the node with the others, and the left one's are spelled
pub record AreHalves (node : Node) (h : Halves) : Type 0 where
  pub front : List Entry
  pub entry : Entry
  pub others : List Entry
  pub all : node.entries ≡ front ++ entry ∷ others
  pub two : 2 ≤ length node.entries
  pub half : length front ≡ length node.entries / 2
  pub key : h.key ≡ entry.0
  pub right : node_at h.right ≡ Some (record node { entries = entry ∷ others })
  pub count : length front ≡ h.count
  pub first : Spells h.first front

abbrev pub IsHalved : Node → Result (Option Halves) Refusal → Type 0
IsHalved node (Ok None) = length node.entries < 2
IsHalved node (Ok (Some h)) = AreHalves node h
IsHalved node (Err fault) = fault ≢ Damaged
