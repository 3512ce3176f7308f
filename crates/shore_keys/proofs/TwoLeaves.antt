-- A leaf is two: what the tree is.
use Rattle.std.proofs.Common.{◌≡◌, ◌≢◌, ◌⊎◌, inl, inr, ℕ, List, [], ◌∷◌, ◌++◌, Bool, true, false, cond, Option, Some, None, refl, sym, ap, subst, ◌∙◌}
use Rattle.std.specs.Prelude.{not}
use Rattle.std.specs.FinMap.{get}
use Rattle.std.proofs.lemmas.Option.{same_Some, none-some}
use Rattle.shore_types.specs.declared.ids.Rid.{Rid}
use Rattle.shore_model.specs.Records.{Records}
use Rattle.shore_keys.specs.Nodes.{Entry, Node, node_at}
use Rattle.shore_keys.specs.Orders.{IsUpTo, is_before}
use Rattle.shore_keys.specs.Trees.{Apart, Chain, EndsFrom, Index, Indexes, IsHome, Leaf, NotIn, ReadsNode, RiseFrom, child, is_past, look, look_in, node_of, way_to}
use Rattle.shore_keys.proofs.Changes.{IsLeafFor, Keeps, NoInner, SameBut, apart-before, apart-behind, kept-chain, remade}
use Rattle.shore_keys.proofs.RisingHalves.{back-ends, back-from, front-ends, front-from, looks-back, looks-front}
use Rattle.shore_keys.proofs.KeyOrder.{before-trans, before-upto}
use Rattle.shore_keys.proofs.Looks.{at-home}
use Rattle.shore_keys.proofs.Walks.{join, one_node, same_node}

not-in-two : (id : Rid) (before : List Leaf) (p q n : Leaf) (behind : List Leaf) → q.id ≡ p.id → n.id ≢ id → NotIn id (before ++ p ∷ behind) → NotIn id (before ++ q ∷ n ∷ behind)
not-in-two id [] p q n behind e other h = ((λ same. h.0 (sym e ∙ same)), (other, h.1))
not-in-two id (b ∷ before) p q n behind e other h = (h.0, not-in-two id before p q n behind e other h.1)

pub apart-two : (before : List Leaf) (p q n : Leaf) (behind : List Leaf) → q.id ≡ p.id → NotIn n.id (before ++ p ∷ behind) → Apart (before ++ p ∷ behind) → Apart (before ++ q ∷ n ∷ behind)
apart-two [] p q n behind e new h = (((λ same. new.0 (sym e ∙ sym same)), subst (λ id. NotIn id behind) (sym e) h.0), (new.1, h.1))
apart-two (b ∷ before) p q n behind e new h = (not-in-two b.id before p q n behind e (λ same. new.0 (sym same)) h.0, apart-two before p q n behind e new.1 h.1)

pub keeps-two : (before : List Leaf) (p q n : Leaf) (behind : List Leaf) → q.id ≡ p.id → q.low ≡ p.low → Keeps (before ++ p ∷ behind) (before ++ q ∷ n ∷ behind)
keeps-two [] p q n behind e low key id (inl h) = inl (e ∙ h.0, subst (λ low. IsUpTo low key) (sym low) h.1)
keeps-two [] p q n behind e low key id (inr h) = inr (inr h)
keeps-two (b ∷ before) p q n behind e low key id (inl h) = inl h
keeps-two (b ∷ before) p q n behind e low key id (inr h) = inr (keeps-two before p q n behind e low key id h)

pub looks-two : (before : List Leaf) (p q n : Leaf) (behind : List Leaf) (k : List ℕ) → look (q ∷ n ∷ behind) k ≡ look (p ∷ behind) k → look (before ++ q ∷ n ∷ behind) k ≡ look (before ++ p ∷ behind) k
looks-two [] p q n behind k same = same
looks-two (b ∷ before) p q n behind k same = ap (λ o. cond (is_past b.right k) o (look_in b.entries k)) (looks-two before p q n behind k same)

-- what is past the end is past what is not past it
past-both : (right : Option Entry) (sep : Entry) (k : List ℕ) → is_past right sep.0 ≡ false → is_past right k ≡ true → is_past (Some sep) k ≡ true
past-both None sep k within past = absurd cc
past-both (Some r) sep k within past = of (is_before k sep.0) refl
  where
    flip : (b : Bool) → not b ≡ false → b ≡ true
    flip true h = refl
    flip false h = absurd cc

    flop : (b : Bool) → not b ≡ true → b ≡ false
    flop true h = absurd cc
    flop false h = refl

    of : (b : Bool) → is_before k sep.0 ≡ b → not (is_before k sep.0) ≡ true
    of false e = ap not e
    of true e =
        let below : is_before k r.0 ≡ true = before-trans k sep.0 r.0 e (before-upto sep.0 r.0 (flip (is_before sep.0 r.0) within)) in
        absurd (clash (sym below ∙ flop (is_before k r.0) past))
      where
        clash : true ≡ false → ⊥
        clash e = cc

module _ (R Q : Records) (root : Rid) (x : Index) (h : Indexes R root x) (key : List ℕ) (id : Rid) (bytes : List ℕ) (home : IsHome R h.leaves key id bytes) (new : Rid) (xs : List Entry) (e : Entry) (ys : List Entry)
    (all : home.leaf.entries ≡ xs ++ e ∷ ys) (store_of : new.page.store ≡ root.page.store) (same : SameBut R Q root.page.store id) (fresh : NotIn new h.leaves) where
  abbrev store : ℕ
  store = root.page.store

  abbrev sep : Entry
  sep = (e.0, new.page.page, new.slot)

  abbrev pub left : Leaf
  left = record home.leaf { right = Some sep; entries = xs }

  abbrev pub half : Leaf
  half = record { id = new; low = e.0; right = home.leaf.right; entries = e ∷ ys }

  abbrev pub halves : List Leaf
  halves = home.before ++ left ∷ half ∷ home.behind

  pub in-place : Apart (home.before ++ home.leaf ∷ home.behind)
  in-place = subst Apart home.all h.apart

  rise : RiseFrom home.leaf.low (xs ++ e ∷ ys) home.leaf.right
  rise = subst (λ es. RiseFrom home.leaf.low es home.leaf.right) all (at-home R root x h key id bytes home).back.4

  way : way_to store (Some sep) ≡ Some (half.low, half.id)
  way = ap (λ (s : ℕ). Some (e.0, record { page = record { store = s; page = new.page.page }; slot = new.slot })) (sym store_of)

  pub two-chain : ReadsNode Q id (node_of left) → ReadsNode Q new (node_of half) → Chain Q store (Some ([], h.first)) halves None
  two-chain reads_left reads_half =
      let c = at-home R root x h key id bytes home in
      let same_here : SameBut R Q store home.leaf.id = subst (λ id. SameBut R Q store id) (sym home.here) same in
      join Q store (Some ([], h.first)) home.before (left ∷ half ∷ home.behind) c.mid None
      (kept-chain R Q store home.leaf.id (Some ([], h.first)) home.before c.mid same_here (apart-before home.before home.leaf home.behind in-place) c.front) (
        c.back.0,
        c.back.1,
        subst (λ id. ReadsNode Q id (node_of left)) (sym home.here) reads_left,
        front-ends e ys home.leaf.right sep refl home.leaf.low xs rise,
        front-from e ys home.leaf.right sep refl home.leaf.low xs rise,
        (
          way,
          store_of,
          reads_half,
          back-ends e ys home.leaf.right home.leaf.low xs rise,
          back-from e ys home.leaf.right home.leaf.low xs rise,
          kept-chain R Q store home.leaf.id (way_to store home.leaf.right) home.behind None same_here (apart-behind home.before home.leaf home.behind in-place) c.back.5,
        ),
      )

  pub looks-here : (k : List ℕ) → look (left ∷ half ∷ home.behind) k ≡ look (home.leaf ∷ home.behind) k
  looks-here k = of (is_past home.leaf.right k) refl (is_before k e.0) refl
    where
      of : (b : Bool) → is_past home.leaf.right k ≡ b → (t : Bool) → is_before k e.0 ≡ t → look (left ∷ half ∷ home.behind) k ≡ look (home.leaf ∷ home.behind) k
      of true past t below =
          ap (λ b. cond b (look (half ∷ home.behind) k) (look_in xs k)) (past-both home.leaf.right sep k (back-from e ys home.leaf.right home.leaf.low xs rise).1 past)
          ∙ ap (λ b. cond b (look home.behind k) (look_in (e ∷ ys) k)) past ∙ sym (ap (λ b. cond b (look home.behind k) (look_in home.leaf.entries k)) past)
      of false within true below =
          ap (λ b. cond (not b) (look (half ∷ home.behind) k) (look_in xs k)) below
          ∙ sym (looks-front e ys home.leaf.right home.leaf.low k xs rise below) ∙ ap (λ (es : List Entry). look_in es k) (sym all)
          ∙ sym (ap (λ b. cond b (look home.behind k) (look_in home.leaf.entries k)) within)
      of false within false above =
          ap (λ b. cond (not b) (look (half ∷ home.behind) k) (look_in xs k)) above
          ∙ ap (λ b. cond b (look home.behind k) (look_in (e ∷ ys) k)) within
          ∙ sym (looks-back e ys home.leaf.right home.leaf.low k xs rise above) ∙ ap (λ (es : List Entry). look_in es k) (sym all)
          ∙ sym (ap (λ b. cond b (look home.behind k) (look_in home.leaf.entries k)) within)

  abbrev pub split-is : ReadsNode Q id (node_of left) → ReadsNode Q new (node_of half) → Indexes Q root x
  split-is reads_left reads_half =
      remade R Q root x x h id halves same
      (λ node here reads level. level (ap (λ (n : Node). n.level) (one_node bytes node (node_of home.leaf) (same_node R id bytes node home.there reads) home.reads)))
      (λ node here reads level. level (ap (λ (n : Node). n.level) (one_node reads_left.bytes node (node_of left) (same_node Q id reads_left.bytes node reads_left.there reads) reads_left.reads)))
      (λ k at l. keeps-two home.before home.leaf left half home.behind refl refl k at (subst (λ ls. IsLeafFor ls k at) home.all l))
      (two-chain reads_left reads_half) (apart-two home.before home.leaf left half home.behind refl (subst (NotIn new) home.all fresh) in-place)
      (λ k. looks-two home.before home.leaf left half home.behind k (looks-here k) ∙ ap (λ ls. look ls k) (sym home.all) ∙ h.is k)
