-- Rings of nodes: doubly linked lists that end where they begin.
use Rattle.std.specs.Prelude.{◌≡◌, ◌<◌, ◌⊎◌, ℕ, List, [], ◌∷◌, slice_index_or, slice_set, length}
use Rattle.shore_rings.specs.declared.ring.Link.{Link}

-- the link of a node
abbrev pub link_at : List Link → ℕ → Link
link_at links node = slice_index_or links node (record { before = 0; after = 0 })

-- the node behind a node, and the one before it
abbrev pub after_at : List Link → ℕ → ℕ
after_at links node = (link_at links node).after

abbrev pub before_at : List Link → ℕ → ℕ
before_at links node = (link_at links node).before

abbrev pub with_after : ℕ → ℕ → List Link → List Link
with_after node next links = slice_set links node (record { before = before_at links node; after = next })

abbrev pub with_before : ℕ → ℕ → List Link → List Link
with_before node previous links = slice_set links node (record { before = previous; after = after_at links node })

-- two nodes are one behind the other
abbrev pub joined : ℕ → ℕ → List Link → List Link
joined a b links = with_before b a (with_after a b links)

-- a node goes last in the ring of a head: between the head and the one before it
abbrev pub linked : ℕ → ℕ → List Link → List Link
linked head node links = joined node head (joined (before_at links head) node links)

-- a node is taken out of its ring, and is alone in its own
abbrev pub unlinked : ℕ → List Link → List Link
unlinked node links = joined node node (joined (before_at links node) (after_at links node) links)

-- from one node through others to a last: the first function tells the next node and the second the one before
abbrev pub Way : (ℕ → ℕ) → (ℕ → ℕ) → ℕ → List ℕ → ℕ → Type 0
Way next previous a [] b = (next a ≡ b) × (previous b ≡ a)
Way next previous a (x ∷ xs) b = ((next a ≡ x) × (previous x ≡ a)) × Way next previous x xs b

-- it is one of them
abbrev pub In : ℕ → List ℕ → Type 0
In x [] = ⊥
In x (y ∷ ys) = (y ≡ x) ⊎ In x ys

-- no two are the same
abbrev pub Distinct : List ℕ → Type 0
Distinct [] = Unit {0}
Distinct (x ∷ xs) = (In x xs → ⊥) × Distinct xs

-- nothing is in both
abbrev pub Apart : List ℕ → List ℕ → Type 0
Apart xs ys = (x : ℕ) → In x xs → In x ys → ⊥

-- the ring of a head: these nodes in this order, and then the head again
pub record IsRing (links : List Link) (head : ℕ) (xs : List ℕ) : Type 0 where
  pub way : Way (after_at links) (before_at links) head xs head
  pub distinct : Distinct (head ∷ xs)
  pub within : (x : ℕ) → In x (head ∷ xs) → x < length links

-- each node links to nodes that are there
abbrev pub IsClosed : List Link → Type 0
IsClosed links = (x : ℕ) → x < length links → (after_at links x < length links) × (before_at links x < length links)
