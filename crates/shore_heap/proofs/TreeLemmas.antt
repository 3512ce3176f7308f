-- What a node of a tree of maxima says of the leaves below it, and how a search passes them over.
use Rattle.std.proofs.Common.{◌≡◌, inl, inr, ℕ, zero, suc, ◌+◌, ◌-◌, ◌*◌, ◌/◌, ◌^◌, ◌<◌, ◌≤◌, List, get_or, ap, subst, arith}
use Rattle.std.proofs.Math.Nat.{pow-succ', mul-le-mul_left}
use Rattle.std.proofs.lemmas.Bool.{cases_lt}
use Rattle.shore_heap.specs.Maxima.{IsMaxima, IsReached, Reaches}

-- a level more has twice the leaves
twice : (node h : ℕ) → node * 2 ^ suc h ≡ (2 * node) * 2 ^ h
twice node h = omega (arith, ap (λ (n : ℕ). node * n) (pow-succ' 2 h))

wide : (h : ℕ) → 1 ≤ 2 ^ h
wide zero = omega arith
wide (suc h) = omega (arith, wide h, pow-succ' 2 h)

-- a node is not behind its first leaf
at_most : (node h : ℕ) → node ≤ node * 2 ^ h
at_most node h = omega (arith, mul-le-mul_left node (wide h))

-- what has a leaf has a number above 0
from_one : (node h first : ℕ) → 1 ≤ first → first ≤ node * 2 ^ h → 1 ≤ node
from_one zero h first some from = absurd (omega arith)
from_one (suc node) h first some from = omega arith

-- no leaf below a node is greater than it
pub below_node : (tree : List ℕ) (leaves : ℕ) → IsMaxima tree leaves → (h node leaf : ℕ) → 1 ≤ node → node * 2 ^ h ≤ leaf → leaf < (node + 1) * 2 ^ h → leaf < 2 * leaves
    → get_or tree leaf 0 ≤ get_or tree node 0
below_node tree leaves is zero node leaf some from to there = let same : leaf ≡ node = omega arith in omega (arith, ap (λ (n : ℕ). get_or tree n 0) same)
below_node tree leaves is (suc h) node leaf some from to there =
    let inner : node < leaves = omega (arith, twice node h, at_most (2 * node) h) in
    let greatest = is.inner node some inner in
    elim (cases_lt leaf ((2 * node + 1) * 2 ^ h)) [
      | inl left ↦ (let below = below_node tree leaves is h (2 * node) leaf (omega arith) (omega (arith, twice node h)) left there in omega arith)
      | inr right ↦ (let below = below_node tree leaves is h (2 * node + 1) leaf (omega arith) right (omega (arith, twice (node + 1) h)) there in omega arith)
    ]

module _ (tree : List ℕ) (leaves first number : ℕ) (is : IsMaxima tree leaves) (low : leaves ≤ first) (last : number < get_or tree (2 * leaves - 1) 0) where
  -- the leaves of a node that is not above the number are passed over
  passes : (node h : ℕ) → IsReached tree leaves first number node h → get_or tree node 0 ≤ number → IsReached tree leaves first number (node + 1) h
  passes node h at small =
      let some : 1 ≤ node = from_one node h first (omega (arith, at.there)) at.from in
      let below : (leaf : ℕ) → node * 2 ^ h ≤ leaf → leaf < (node + 1) * 2 ^ h → leaf < 2 * leaves → get_or tree leaf 0 ≤ number =
      λ leaf from to there. omega (arith, below_node tree leaves is h node leaf some from to there) in
      let inside : (node + 1) * 2 ^ h < 2 * leaves =
      elim (cases_lt (2 * leaves - 1) ((node + 1) * 2 ^ h)) [
        | inl before ↦ absurd (omega (arith, below (2 * leaves - 1) (omega (arith, at.there)) before (omega (arith, at.there))))
        | inr behind ↦ omega (arith, at.there)
      ] in
      record {
        from = omega (arith, at.from);
        there = inside;
        passed = λ leaf from to. elim (cases_lt leaf (node * 2 ^ h)) [
          | inl before ↦ at.passed leaf from before
          | inr behind ↦ below leaf behind to (omega arith)
        ];
      }

  -- the children of a node of which both are passed over have the next node's leaves behind them
  climbs : (parent h : ℕ) → IsReached tree leaves first number (2 * parent + 1 + 1) h → IsReached tree leaves first number (parent + 1) (suc h)
  climbs parent h at = record {
    from = omega (arith, at.from, twice (parent + 1) h);
    there = omega (arith, at.there, twice (parent + 1) h);
    passed = λ leaf from to. at.passed leaf from (omega (arith, twice (parent + 1) h));
  }

  -- a node has its first child's leaves
  descends : (node h : ℕ) → node < leaves → IsReached tree leaves first number node h → Reaches tree leaves first number (2 * node)
  descends node zero inner at = absurd (omega (arith, at.from))
  descends node (suc h) inner at = record {
    height = h;
    reached = record {
      from = omega (arith, at.from, twice node h);
      there = omega (arith, at.there, twice node h);
      passed = λ leaf from to. at.passed leaf from (omega (arith, twice node h));
    };
  }

  -- the right one of two siblings, from either
  right_at : (node h : ℕ) → IsReached tree leaves first number node h → get_or tree node 0 ≤ number → IsReached tree leaves first number (node / 2 * 2 + 1) h
  right_at node h at small = elim (cases_lt node (node / 2 * 2 + 1)) [
    | inl left ↦ (let same : node + 1 ≡ node / 2 * 2 + 1 = omega arith in subst (λ (n : ℕ). IsReached tree leaves first number n h) same (passes node h at small))
    | inr right ↦ (let same : node ≡ node / 2 * 2 + 1 = omega arith in subst (λ (n : ℕ). IsReached tree leaves first number n h) same at)
  ]

  -- the node behind two siblings that are both passed over
  behind_at : (node h : ℕ) → IsReached tree leaves first number node h → get_or tree node 0 ≤ number → get_or tree (node / 2 * 2 + 1) 0 ≤ number
      → IsReached tree leaves first number (2 * (node / 2) + 1 + 1) h
  behind_at node h at small small_right =
      let same : node / 2 * 2 + 1 + 1 ≡ 2 * (node / 2) + 1 + 1 = omega arith in
      subst (λ (n : ℕ). IsReached tree leaves first number n h) same (passes (node / 2 * 2 + 1) h (right_at node h at small) small_right)

  pub to_right : (node : ℕ) → Reaches tree leaves first number node → get_or tree node 0 ≤ number → Reaches tree leaves first number (node / 2 * 2 + 1)
  to_right node at small = record { height = at.height; reached = right_at node at.height at.reached small }

  -- from two siblings to the one behind their parent
  pub to_next : (node : ℕ) → Reaches tree leaves first number node → get_or tree node 0 ≤ number → get_or tree (node / 2 * 2 + 1) 0 ≤ number → Reaches tree leaves first number (node / 2 + 1)
  to_next node at small small_right = record { height = suc at.height; reached = climbs (node / 2) at.height (behind_at node at.height at.reached small small_right) }

  -- that one is a lower node
  pub next_lower : (node : ℕ) → Reaches tree leaves first number node → get_or tree node 0 ≤ number → get_or tree (node / 2 * 2 + 1) 0 ≤ number → node / 2 + 1 < node
  next_lower node at small small_right = elim (cases_lt (node / 2 + 1) node) [
    | inl lower ↦ lower
    | inr higher ↦ (let w = 2 ^ at.height in
        let behind = (behind_at node at.height at.reached small small_right).there in
        absurd (omega (arith, at.reached.from, behind, mul-le-mul_left w higher)))
  ]

  -- from a node to its first child, and to its second if the first is passed over
  pub to_left_child : (node : ℕ) → Reaches tree leaves first number node → node < leaves → Reaches tree leaves first number (2 * node)
  to_left_child node at inner = descends node at.height inner at.reached

  pub to_right_child : (node : ℕ) → Reaches tree leaves first number node → node < leaves → get_or tree (2 * node) 0 ≤ number → Reaches tree leaves first number (2 * node + 1)
  to_right_child node at inner small =
      let left = to_left_child node at inner in record { height = left.height; reached = passes (2 * node) left.height left.reached small }

  -- a leaf is its own first one
  at_leaf : (node h : ℕ) → leaves ≤ node → IsReached tree leaves first number node h → IsReached tree leaves first number node 0
  at_leaf node zero outer at = at
  at_leaf node (suc h) outer at = absurd (omega (arith, at.there, twice node h, at_most (2 * node) h))

  pub ends : (node : ℕ) → leaves ≤ node → Reaches tree leaves first number node → IsReached tree leaves first number node 0
  ends node outer at = at_leaf node at.height outer at.reached

-- a node that a search reaches is in the tree, and is not the unused place
pub is_node : (tree : List ℕ) (leaves first number node : ℕ) → leaves ≤ first → Reaches tree leaves first number node → (1 ≤ node) × (node < 2 * leaves)
is_node tree leaves first number node low at = (from_one node at.height first (omega (arith, at.reached.there)) at.reached.from, omega (arith, at_most node at.height, at.reached.there))

-- a search begins on a leaf
pub begins : (tree : List ℕ) (leaves first number : ℕ) → first < 2 * leaves → Reaches tree leaves first number first
begins tree leaves first number there = record { height = 0; reached = record { from = omega arith; there = omega arith; passed = λ leaf from to. absurd (omega arith) } }
