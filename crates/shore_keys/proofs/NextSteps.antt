-- The steps of a next.
use Rattle.std.proofs.Common.{◌≡◌, ◌≢◌, ℕ, suc, ◌+◌, ◌-◌, ◌≤◌, List, [], ◌∷◌, ◌++◌, Bool, true, false, cond, Option, Some, None, Result, Ok, Err, refl, sym, ap, subst, ◌∙◌, append_assoc, arith}
use Rattle.std.specs.Prelude.{not, option_map}
use Rattle.std.specs.FinMap.{get}
use Rattle.std.proofs.lemmas.List.{append-nil}
use Rattle.std.proofs.lemmas.Option.{same_Some, none-some}
use Rattle.shore_types.specs.declared.ids.Rid.{Rid}
use Rattle.shore_model.specs.declared.calls.Exchange.{Exchange}
use Rattle.shore_model.specs.declared.progress.Progress.{Progress}
use Rattle.shore_model.specs.Records.{Records}
use Rattle.shore_keys.specs.declared.maps.KeyMap.{KeyMap}
use Rattle.shore_keys.specs.declared.refusals.Refusal.{Refusal}
use Rattle.shore_keys.specs.declared.refusals.Refusal.TheVariants.{Damaged, TooFar}
use Rattle.shore_keys.specs.declared.searching.Home.{Home}
use Rattle.shore_keys.specs.Calls.{Gets, HasGot}
use Rattle.shore_keys.specs.Cuts.{AllUpTo, BeginsAbove, IsCutAt}
use Rattle.shore_keys.specs.Exchanges.{AtItsTurn, GoesOn, seen}
use Rattle.shore_keys.specs.Maps.{IsNextKey, IsValue, Map, Nexts, Represents}
use Rattle.shore_keys.specs.Nexts.{IsFirstAbove, IsFirstAt, IsReading, Reads}
use Rattle.shore_keys.specs.Nodes.{Entry, Node, entries_at, entry_at, node_at}
use Rattle.shore_keys.specs.Orders.{IsUpTo, is_before}
use Rattle.shore_keys.specs.Steps.{Arrives, HasArrived}
use Rattle.shore_keys.specs.Trees.{Chain, Index, Indexes, IsHome, Leaf, ReadsNode, RiseFrom, Spot, child, id_in, is_past, look_in, node_of, way_to}
use Rattle.shore_keys.proofs.EntriesLeft.{first_of}
use Rattle.shore_keys.proofs.FindSteps.{Arrived, Got}
use Rattle.shore_keys.proofs.KeyOrder.{before-trans, before-upto, upto-itself, upto-trans}
use Rattle.shore_keys.proofs.Looks.{looks-home}
use Rattle.shore_keys.proofs.RisingHalves.{back-from, before-apart, front-ends, looks-back, looks-front}
use Rattle.shore_keys.proofs.SameTexts.{look-other, look-same}
use Rattle.shore_keys.proofs.Turns.{goes-as, goes-then}
use Rattle.shore_keys.proofs.Walks.{Cut, cut, one_node, same_node}

-- what is not above the one comes before what the one comes before
upto-before : (a b c : List ℕ) → IsUpTo a b → is_before b c ≡ true → is_before a c ≡ true
upto-before a b c low h = of (is_before a c) refl
  where
    clash : false ≡ true → ⊥
    clash e = cc

    of : (t : Bool) → is_before a c ≡ t → is_before a c ≡ true
    of true e = e
    of false e = absurd (clash (sym (upto-trans c a b e low) ∙ h))

-- of entries that are not above a key none is above it
none-up-to : (es : List Entry) (key k : List ℕ) → AllUpTo es key → is_before key k ≡ true → look_in es k ≡ None
none-up-to [] key k all h = refl
none-up-to (e ∷ es) key k all h = look-other e es k (before-apart e.0 k (upto-before e.0 key k all.0 h)) ∙ none-up-to es key k all.1 h

-- ---- one leaf

module _ (R : Records) (root : Rid) (x : Index) (h : Indexes R root x) (key bytes : List ℕ) (r : IsReading R h.leaves x key bytes) where
  abbrev store : ℕ
  store = root.page.store

  abbrev part : Cut R store (Some ([], h.first)) r.before (r.leaf ∷ r.behind) None
  part = cut R store (Some ([], h.first)) r.before (r.leaf ∷ r.behind) None (subst (λ ls. Chain R store (Some ([], h.first)) ls None) r.all h.chain)

  rises : RiseFrom r.leaf.low r.leaf.entries r.leaf.right
  rises = part.back.4

  -- the leaf has what is found from it on and before its right neighbour
  here : (k : List ℕ) → IsUpTo r.leaf.low k → is_past r.leaf.right k ≡ false → look_in r.leaf.entries k ≡ x k
  here k low within =
      looks-home R root x h k r.leaf.id bytes
      (record { before = r.before; leaf = r.leaf; behind = r.behind; all = r.all; here = refl; low = low; within = within; there = r.there; reads = r.reads })

  -- nothing has a key up to where the leaf ends, if none of its entries is above this one
  none-here : AllUpTo r.leaf.entries key → (k : List ℕ) → is_before key k ≡ true → is_past r.leaf.right k ≡ false → x k ≡ None
  none-here up k above within = of (is_before k r.leaf.low) refl
    where
      of : (b : Bool) → is_before k r.leaf.low ≡ b → x k ≡ None
      of true e = r.passed k above e
      of false e = sym (here k e within) ∙ none-up-to r.leaf.entries key k up above

  module _ (e : Entry) (f : IsFirstAt r.leaf.entries key e) where
    rise : RiseFrom r.leaf.low (f.below ++ e ∷ f.others) r.leaf.right
    rise = subst (λ es. RiseFrom r.leaf.low es r.leaf.right) f.all rises

    within : is_past r.leaf.right e.0 ≡ false
    within = (back-from e f.others r.leaf.right r.leaf.low f.below rise).1

    pub found-has : x e.0 ≡ Some (e.1, e.2)
    found-has =
        sym (here e.0 (front-ends e f.others r.leaf.right e refl r.leaf.low f.below rise) within) ∙ ap (λ (es : List Entry). look_in es e.0) f.all
        ∙ looks-back e f.others r.leaf.right r.leaf.low e.0 f.below rise (upto-itself e.0) ∙ look-same e f.others e.0 refl

    inside : (right : Option Entry) (k : List ℕ) → is_past right e.0 ≡ false → is_before k e.0 ≡ true → is_past right k ≡ false
    inside None k past low = refl
    inside (Some w) k past low = ap not (before-trans k e.0 w.0 low (before-upto e.0 w.0 (flipped (is_before e.0 w.0) past)))
      where
        flipped : (b : Bool) → not b ≡ false → b ≡ true
        flipped true h = refl
        flipped false h = absurd cc

    pub found-first : (k : List ℕ) → is_before key k ≡ true → is_before k e.0 ≡ true → x k ≡ None
    found-first k above below = of (is_before k r.leaf.low) refl
      where
        of : (b : Bool) → is_before k r.leaf.low ≡ b → x k ≡ None
        of true c = r.passed k above c
        of false c =
            sym (here k c (inside r.leaf.right k within below)) ∙ ap (λ (es : List Entry). look_in es k) f.all ∙ looks-front e f.others r.leaf.right r.leaf.low k f.below rise below
            ∙ none-up-to f.below key k f.up above

  -- the right neighbour is read then
  pub reads-next : AllUpTo r.leaf.entries key → (w : Entry) → r.leaf.right ≡ Some w → (later : List ℕ) → get R (child store w) ≡ Some later → IsReading R h.leaves x key later
  reads-next up w right later there = of r.behind refl (subst (λ o. Chain R store (way_to store o) r.behind None) right part.back.5)
    where
      of : (behind : List Leaf) → r.behind ≡ behind → Chain R store (Some (w.0, child store w)) behind None → IsReading R h.leaves x key later
      of [] is chain = absurd (none-some (w.0, child store w) (sym chain))
      of (p ∷ ps) is chain =
          let same = same_Some (w.0, child store w) (p.low, p.id) chain.0 in
          let low : w.0 ≡ p.low = ap (λ (y : List ℕ × Rid). y.0) same in
          let id : child store w ≡ p.id = ap (λ (y : List ℕ × Rid). y.1) same in
          let now : get R p.id ≡ Some later = subst (λ id. get R id ≡ Some later) id there in
          record {
            before = r.before ++ r.leaf ∷ [];
            leaf = p;
            behind = ps;
            all = r.all ∙ ap (λ (l : List Leaf). r.before ++ r.leaf ∷ l) is ∙ sym (append_assoc r.before (r.leaf ∷ []) (p ∷ ps));
            there = now;
            reads = same_node R p.id later (node_of p) now chain.2;
            passed = λ k above below.
                none-here up k above (ap (λ (o : Option Entry). is_past o k) right ∙ ap (λ (l : List ℕ). not (is_before k l)) low ∙ ap not below);
          }

  pub none-left : AllUpTo r.leaf.entries key → r.leaf.right ≡ None → (k : List ℕ) → is_before key k ≡ true → x k ≡ None
  none-left up right k above = none-here up k above (ap (λ (o : Option Entry). is_past o k) right)

-- a search ends at a leaf that may be read
home-reads : (R : Records) (root : Rid) (x : Index) (h : Indexes R root x) (key : List ℕ) (id : Rid) (bytes : List ℕ) → IsHome R h.leaves key id bytes → IsReading R h.leaves x key bytes
home-reads R root x h key id bytes home = record {
  before = home.before;
  leaf = home.leaf;
  behind = home.behind;
  all = home.all;
  there = subst (λ id. get R id ≡ Some bytes) (sym home.here) home.there;
  reads = home.reads;
  passed = λ k above below. absurd (clash (sym (upto-trans home.leaf.low key k home.low (before-upto key k above)) ∙ below));
}
  where
    clash : false ≡ true → ⊥
    clash e = cc

-- ---- over the calls

abbrev Reading : Rid → List ℕ → List ℕ → Records → Progress → Progress → Type 0
Reading root key bytes R p q = (x : Index) (h : Indexes (seen R p) root x) → (q ≡ p) × IsReading (seen R p) h.leaves x key bytes

abbrev Next : KeyMap → List ℕ → Result (Option (List ℕ × List ℕ)) Refusal → Records → Progress → Progress → Type 0
Next k key s R p q = (m : Map) → Represents (seen R p) k m → (q ≡ p) × IsNextKey m key s

pub next-starts : (root : Rid) (key : List ℕ) (a b : List Exchange) (r : Result Home Refusal) (home : Home) → GoesOn (Arrives root key r) a b → r ≡ Ok home → GoesOn (Reads root key home.bytes) a b
next-starts root key a b r home x is =
    goes-as (Arrived root key r) (Reading root key home.bytes) a b x
    (λ R p q h x i.
    let at = h x i in
    let arrived = subst (HasArrived (seen R p) root x i key) is at.1 in
    (at.0, home-reads (seen R p) root x i key home.id home.bytes arrived.0))

pub next-stops-home : (k : KeyMap) (key : List ℕ) (a b : List Exchange) (r : Result Home Refusal) (s : Result (Option (List ℕ × List ℕ)) Refusal) (f : Refusal) → GoesOn (Arrives k.root key r) a b → r ≡ Err f → s ≡ Err f
    → GoesOn (Nexts k key s) a b
next-stops-home k key a b r s f x is so =
    goes-as (Arrived k.root key r) (Next k key s) a b x
    (λ R p q h m rep.
    let at = h rep.index rep.indexes in
    (at.0, subst (IsNextKey m key) (sym so) (subst (HasArrived (seen R p) k.root rep.index rep.indexes key) is at.1)))

-- what the index has not the map has not
none-value : (R : Records) (store : ℕ) (found : Option Spot) (v : Option (List ℕ)) → found ≡ None → IsValue R store found v → v ≡ None
none-value R store found v none is = subst (λ found. IsValue R store found v) none is

module _ (k : KeyMap) (key bytes : List ℕ) (a b : List Exchange) (x : GoesOn (Reads k.root key bytes) a b) (s : Result (Option (List ℕ × List ℕ)) Refusal) where
  pub next-stops : (f : Refusal) → s ≡ Err f → f ≢ Damaged → GoesOn (Nexts k key s) a b
  next-stops f so other = goes-as (Reading k.root key bytes) (Next k key s) a b x (λ R p q h m rep. ((h rep.index rep.indexes).0, subst (IsNextKey m key) (sym so) other))

  module _ (o : Result (Option (List ℕ × Spot)) Refusal) (looked : (node : Node) → node_at bytes ≡ Some node → IsFirstAbove node.entries key o) where
    pub next-stops-leaf : (f : Refusal) → o ≡ Err f → s ≡ Err f → GoesOn (Nexts k key s) a b
    next-stops-leaf f is so =
        goes-as (Reading k.root key bytes) (Next k key s) a b x
        (λ R p q h m rep.
        let at = h rep.index rep.indexes in
        (at.0, subst (IsNextKey m key) (sym so) (subst (IsFirstAbove at.1.leaf.entries key) is (looked (node_of at.1.leaf) at.1.reads))))

    module _ (none : o ≡ Ok None) where
      none-above : (R : Records) (p : Progress) (y : Index) (h : Indexes (seen R p) k.root y) (r : IsReading (seen R p) h.leaves y key bytes) → AllUpTo r.leaf.entries key
      none-above R p y h r = subst (IsFirstAbove r.leaf.entries key) none (looked (node_of r.leaf) r.reads)

      module _ (w : Option Rid) (right : (node : Node) → node_at bytes ≡ Some node → w ≡ option_map (child k.root.page.store) node.right) where
        no-right : (o : Option Entry) → None ≡ option_map (child k.root.page.store) o → o ≡ None
        no-right None e = refl
        no-right (Some e) is = absurd (none-some (child k.root.page.store e) is)

        pub next-none : w ≡ None → s ≡ Ok None → GoesOn (Nexts k key s) a b
        next-none is so =
            goes-as (Reading k.root key bytes) (Next k key s) a b x
            (λ R p q h m rep.
            let at = h rep.index rep.indexes in
            let up = none-above R p rep.index rep.indexes at.1 in
            let end = no-right at.1.leaf.right (sym is ∙ right (node_of at.1.leaf) at.1.reads) in (
              at.0,
              subst (IsNextKey m key) (sym so)
                  (λ other above. none-value (seen R p) k.values (rep.index other) (m other) (none-left (seen R p) k.root rep.index rep.indexes key bytes at.1 up end other above) (rep.valued other)),
            ))

        some-right : (o : Option Entry) (id : Rid) → Some id ≡ option_map (child k.root.page.store) o → (e : Entry) × (o ≡ Some e) × (id ≡ child k.root.page.store e)
        some-right None id is = absurd (none-some id (sym is))
        some-right (Some e) id is = (e, refl, same_Some id (child k.root.page.store e) is)

        pub next-goes : (id : Rid) → w ≡ Some id → (c : List Exchange) (g : Result (List ℕ) Refusal) → GoesOn (Gets id g) b c → (later : List ℕ) → g ≡ Ok later → GoesOn (Reads k.root key later) a c
        next-goes id is c g gets later so =
            goes-then (Reading k.root key bytes) (Got id g) (Reading k.root key later) a b c x gets
            (λ R p q t h y x i.
            let at = h x i in
            let up = none-above R p x i at.1 in
            let e = some-right at.1.leaf.right id (sym is ∙ right (node_of at.1.leaf) at.1.reads) in
            let there : get (seen R p) id ≡ Some later = subst (λ q. get (seen R q) id ≡ Some later) at.0 (subst (HasGot (seen R q) id) so y.1) in
            (y.0 ∙ at.0, reads-next (seen R p) k.root x i key bytes at.1 up e.0 e.1 later (subst (λ id. get (seen R p) id ≡ Some later) e.2 there)))

        pub next-stops-right : (id : Rid) (c : List Exchange) (g : Result (List ℕ) Refusal) → GoesOn (Gets id g) b c → (f : Refusal) → g ≡ Err f → s ≡ Err f → GoesOn (Nexts k key s) a c
        next-stops-right id c g gets f is so =
            goes-then (Reading k.root key bytes) (Got id g) (Next k key s) a b c x gets
            (λ R p q t h y m rep. (y.0 ∙ (h rep.index rep.indexes).0, subst (IsNextKey m key) (sym so) (subst (HasGot (seen R q) id) is y.1)))

    module _ (found : List ℕ) (spot : Spot) (some : o ≡ Ok (Some (found, spot))) (c : List Exchange) (id : Rid) (it : id ≡ id_in k.values spot.0 spot.1) (g : Result (List ℕ) Refusal) (gets : GoesOn (Gets id g) b c) where
      pub next-stops-value : (f : Refusal) → g ≡ Err f → s ≡ Err f → GoesOn (Nexts k key s) a c
      next-stops-value f is so =
          goes-then (Reading k.root key bytes) (Got id g) (Next k key s) a b c x gets
          (λ R p q t h y m rep. (y.0 ∙ (h rep.index rep.indexes).0, subst (IsNextKey m key) (sym so) (subst (HasGot (seen R q) id) is y.1)))

      pub next-found : (value : List ℕ) → g ≡ Ok value → s ≡ Ok (Some (found, value)) → GoesOn (Nexts k key s) a c
      next-found value is so =
          goes-then (Reading k.root key bytes) (Got id g) (Next k key s) a b c x gets
          (λ R p q t h y m rep.
          let at = h rep.index rep.indexes in
          let first = subst (IsFirstAbove at.1.leaf.entries key) some (looked (node_of at.1.leaf) at.1.reads) in
          let has : rep.index found ≡ Some spot = found-has (seen R p) k.root rep.index rep.indexes key bytes at.1 (found, spot.0, spot.1) first in
          let v = subst (λ found_at. IsValue (seen R p) k.values found_at (m found)) has (rep.valued found) in
          let read : get (seen R p) id ≡ Some value = subst (λ q. get (seen R q) id ≡ Some value) at.0 (subst (HasGot (seen R q) id) is y.1) in
          let same : value ≡ v.0 = same_Some value v.0 (sym read ∙ ap (λ id. get (seen R p) id) it ∙ v.1) in (
            y.0 ∙ at.0,
            subst (IsNextKey m key) (sym so) (
              first.over,
              v.2 ∙ ap (λ (v : List ℕ). Some v) (sym same),
              λ other above below. none-value (seen R p) k.values (rep.index other) (m other)
                  (found-first (seen R p) k.root rep.index rep.indexes key bytes at.1 (found, spot.0, spot.1) first other above below) (rep.valued other),
            ),
          ))

-- ---- what is read for it

pub first-none : (count : ℕ) (body key : List ℕ) (es : List Entry) (at : ℕ) (rest : List ℕ) → IsCutAt count body key es at rest → at ≡ count → AllUpTo es key
first-none count body key es at rest c end = of c.above c.others c.all
  where
    zero : count - at ≡ 0
    zero = omega (arith, end)

    of : (above : List Entry) → entries_at (count - at) rest ≡ Some above → es ≡ c.below ++ above → AllUpTo es key
    of above others all =
        let none : [] ≡ above = same_Some [] above (ap (λ (n : ℕ). entries_at n rest) (sym zero) ∙ others) in
        subst (λ es. AllUpTo es key) (sym (all ∙ ap (λ (l : List Entry). c.below ++ l) (sym none) ∙ append-nil c.below)) c.up

module _ (count : ℕ) (body key : List ℕ) (es : List Entry) (at : ℕ) (rest : List ℕ) (c : IsCutAt count body key es at rest) (more : at ≢ count) where
  some : count - at ≡ suc (count - at - 1)
  some = let few : at ≤ count = c.few in omega arith

  pub first-there : entry_at rest ≡ None → ⊥
  first-there none =
      let f = first_of rest (count - at - 1) c.above (ap (λ (n : ℕ). entries_at n rest) (sym some) ∙ c.others) in
      none-some (f.entry, f.behind) (sym none ∙ f.one)

  pub first-is : (y : Entry × List ℕ) → entry_at rest ≡ Some y → IsFirstAt es key y.0
  first-is y one =
      let f = first_of rest (count - at - 1) c.above (ap (λ (n : ℕ). entries_at n rest) (sym some) ∙ c.others) in
      let same : (f.entry, f.behind) ≡ y = same_Some (f.entry, f.behind) y (sym f.one ∙ one) in
      let above : c.above ≡ y.0 ∷ f.later = f.is ∙ ap (λ (y : Entry × List ℕ). y.0 ∷ f.later) same in
      record { below = c.below; others = f.later; all = c.all ∙ ap (λ (l : List Entry). c.below ++ l) above; up = c.up; over = subst (BeginsAbove key) above c.over }
