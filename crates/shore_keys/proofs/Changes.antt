-- One record of a tree is changed: what is there still.
use Rattle.std.proofs.Common.{◌≡◌, ◌≢◌, ◌⊎◌, inl, inr, ℕ, List, [], ◌∷◌, ◌++◌, Bool, true, false, cond, Option, Some, None, refl, sym, ap, subst, ◌∙◌}
use Rattle.std.specs.Prelude.{nat_eq}
use Rattle.std.specs.FinMap.{get}
use Rattle.std.specs.Ordering.{eq_by_cmp}
use Rattle.std.specs.Cmp.{eq_by_cmp_equiv}
use Rattle.std.specs.Cmp.Lexicographic.{pointwise}
use Rattle.std.proofs.lemmas.Map.Views.{tells_apart}
use Rattle.std.proofs.lemmas.Option.{same_Some, none-some}
use Rattle.shore_types.specs.Ids.{rid_cmp, rids_total, exact_rids}
use Rattle.shore_types.specs.declared.ids.Rid.{Rid}
use Rattle.shore_model.specs.Records.{Records}
use Rattle.shore_keys.specs.Maps.{with_at}
use Rattle.shore_keys.specs.Nodes.{Entry, Node, node_at}
use Rattle.shore_keys.specs.Orders.{IsUpTo}
use Rattle.shore_keys.specs.Trees.{AllLead, Apart, Chain, Index, Indexes, IsHome, Leads, LeadsToLeaf, Leaf, NotIn, ReadsNode, RightLeads, RiseFrom, Spot, Way, child, is_past, look, look_in, node_of, way_to}
use Rattle.shore_keys.proofs.Looks.{at-home, looks-at}
use Rattle.shore_keys.proofs.SameTexts.{same_text, same_texts}
use Rattle.shore_keys.proofs.Walks.{cut, join, one_node, same_node}

pub same_or_not : (a b : Rid) → (a ≡ b) ⊎ (a ≢ b)
same_or_not a b =
    elim (eq_by_cmp rid_cmp a b) as (λ t. eq_by_cmp rid_cmp a b ≡ t → (a ≡ b) ⊎ (a ≢ b)) [
      | true ↦ λ e. inl (tells_apart exact_rids a b e)
      | false ↦ λ e. inr (λ same. clash (sym ((eq_by_cmp_equiv rids_total).refl a) ∙ ap (λ b. eq_by_cmp rid_cmp a b) same ∙ e))
    ] refl
  where
    clash : true ≡ false → ⊥
    clash e = cc

-- the store has the same records, but for one place
abbrev pub SameBut : Records → Records → ℕ → Rid → Type 0
SameBut R Q store id = (q : Rid) → q.page.store ≡ store → q ≢ id → get Q q ≡ get R q

pub kept-node : (R Q : Records) (id : Rid) (n : Node) → get Q id ≡ get R id → ReadsNode R id n → ReadsNode Q id n
kept-node R Q id n same h = record { bytes = h.bytes; there = same ∙ h.there; reads = h.reads }

pub kept-chain : (R Q : Records) (store : ℕ) (id : Rid) (from : Way) (ps : List Leaf) (to : Way) → SameBut R Q store id → NotIn id ps → Chain R store from ps to → Chain Q store from ps to
kept-chain R Q store id from [] to same apart chain = chain
kept-chain R Q store id from (p ∷ ps) to same apart chain = (
  chain.0,
  chain.1,
  kept-node R Q p.id (node_of p) (same p.id chain.1 apart.0) chain.2,
  chain.3,
  chain.4,
  kept-chain R Q store id (way_to store p.right) ps to same apart.1 chain.5,
)

-- a leaf of these whose keys begin at or below this one
abbrev pub IsLeafFor : List Leaf → List ℕ → Rid → Type 0
IsLeafFor [] key id = ⊥
IsLeafFor (p ∷ ps) key id = ((p.id ≡ id) × IsUpTo p.low key) ⊎ IsLeafFor ps key id

in-midst : (before : List Leaf) (p : Leaf) (behind : List Leaf) (key : List ℕ) (id : Rid) → p.id ≡ id → IsUpTo p.low key → IsLeafFor (before ++ p ∷ behind) key id
in-midst [] p behind key id here low = inl (here, low)
in-midst (q ∷ before) p behind key id here low = inr (in-midst before p behind key id here low)

leaf-for : (leaves : List Leaf) (key : List ℕ) (id : Rid) → LeadsToLeaf leaves key id → IsLeafFor leaves key id
leaf-for leaves key id l = subst (λ ls. IsLeafFor ls key id) (sym l.all) (in-midst l.before l.leaf l.behind key id l.here l.low)

leads-to : (leaves : List Leaf) (key : List ℕ) (id : Rid) → IsLeafFor leaves key id → LeadsToLeaf leaves key id
leads-to [] key id none = absurd none
leads-to (p ∷ ps) key id (inl h) = record { before = []; leaf = p; behind = ps; all = refl; here = h.0; low = h.1 }
leads-to (p ∷ ps) key id (inr h) =
    let l = leads-to ps key id h in
    record { before = p ∷ l.before; leaf = l.leaf; behind = l.behind; all = ap (λ ls. p ∷ ls) l.all; here = l.here; low = l.low }

-- what led into the chain does still
abbrev pub Keeps : List Leaf → List Leaf → Type 0
Keeps old new = (key : List ℕ) (id : Rid) → IsLeafFor old key id → IsLeafFor new key id

-- no inner node of the store is there
abbrev pub NoInner : Records → ℕ → Rid → Type 0
NoInner R store id = (node : Node) → id.page.store ≡ store → ReadsNode R id node → node.level ≢ 0 → ⊥

module _ (R Q : Records) (store : ℕ) (id : Rid) (old new : List Leaf) (same : SameBut R Q store id) (none : NoInner R store id) (keeps : Keeps old new) where
  pub kept-leads : (key : List ℕ) (at : Rid) → at.page.store ≡ store → Leads R old key at → Leads Q new key at
  kept-leads key at here (inl l) = inl (leads-to new key at (keeps key at (leaf-for old key at l)))
  kept-leads key at here (inr i) =
      let other : at ≢ id = λ e. none i.node (ap (λ (id : Rid). id.page.store) (sym e) ∙ here) (subst (λ at. ReadsNode R at i.node) e i.reads) i.inner in
      inr (record { node = i.node; reads = kept-node R Q at i.node (same at here other) i.reads; inner = i.inner; low = i.low })

  pub kept-all : (es : List Entry) → AllLead R store old es → AllLead Q store new es
  kept-all [] all = tt
  kept-all (e ∷ es) all = (kept-leads e.0 (child store e) refl all.0, kept-all es all.1)

  pub kept-right : (right : Option Entry) → RightLeads R store old right → RightLeads Q store new right
  kept-right None leads = tt
  kept-right (Some e) leads = kept-leads e.0 (child store e) refl leads

-- a tree of other leaves, or with another record of its store, in which nothing but leaves has changed
abbrev pub remade : (R Q : Records) (root : Rid) (x y : Index) (h : Indexes R root x) (id : Rid) (new : List Leaf) → SameBut R Q root.page.store id → NoInner R root.page.store id
    → NoInner Q root.page.store id → Keeps h.leaves new → Chain Q root.page.store (Some ([], h.first)) new None → Apart new → ((key : List ℕ) → look new key ≡ y key) → Indexes Q root y
remade R Q root x y h id new same none none_now keeps chain apart is = record {
  first = h.first;
  leaves = new;
  chain = chain;
  apart = apart;
  inner = λ at node here reads level.
      let other : at ≢ id = λ e. none_now node (ap (λ (id : Rid). id.page.store) (sym e) ∙ here) (subst (λ at. ReadsNode Q at node) e reads) level in
      let was = h.inner at node here (kept-node Q R at node (sym (same at here other)) reads) level in (
        kept-all R Q root.page.store id h.leaves new same none keeps node.entries was.0,
        kept-right R Q root.page.store id h.leaves new same none keeps node.right was.1,
      );
  root_leads = kept-leads R Q root.page.store id h.leaves new same none keeps [] root refl h.root_leads;
  is = is;
}

-- ---- nothing of the tree has changed

pub keeps-all : (leaves : List Leaf) → Keeps leaves leaves
keeps-all leaves key id h = h

pub not-there : (R : Records) (store : ℕ) (id : Rid) (from : Way) (ps : List Leaf) (to : Way) → ((q : Rid) (n : Node) → q.page.store ≡ store → ReadsNode R q n → q ≢ id) → Chain R store from ps to → NotIn id ps
not-there R store id from [] to other chain = tt
not-there R store id from (p ∷ ps) to other chain = (other p.id (node_of p) chain.1 chain.2, not-there R store id (way_to store p.right) ps to other chain.5)

-- a record of another store, or one more that is no inner node
abbrev pub kept-tree : (R Q : Records) (root : Rid) (x : Index) (id : Rid) → SameBut R Q root.page.store id → ((q : Rid) (n : Node) → q.page.store ≡ root.page.store → ReadsNode R q n → q ≢ id)
    → NoInner Q root.page.store id → Indexes R root x → Indexes Q root x
kept-tree R Q root x id same other none_now h =
    remade R Q root x x h id h.leaves same (λ node here reads level. other id node here reads refl) none_now (keeps-all h.leaves)
    (kept-chain R Q root.page.store id (Some ([], h.first)) h.leaves None same (not-there R root.page.store id (Some ([], h.first)) h.leaves None other h.chain) h.chain) h.apart h.is

-- ---- one leaf has other entries

not-in-same : (id : Rid) (before : List Leaf) (p q : Leaf) (behind : List Leaf) → q.id ≡ p.id → NotIn id (before ++ p ∷ behind) → NotIn id (before ++ q ∷ behind)
not-in-same id [] p q behind e h = ((λ same. h.0 (sym e ∙ same)), h.1)
not-in-same id (b ∷ before) p q behind e h = (h.0, not-in-same id before p q behind e h.1)

apart-same : (before : List Leaf) (p q : Leaf) (behind : List Leaf) → q.id ≡ p.id → Apart (before ++ p ∷ behind) → Apart (before ++ q ∷ behind)
apart-same [] p q behind e h = (subst (λ id. NotIn id behind) (sym e) h.0, h.1)
apart-same (b ∷ before) p q behind e h = (not-in-same b.id before p q behind e h.0, apart-same before p q behind e h.1)

not-in-midst : (id : Rid) (before : List Leaf) (p : Leaf) (behind : List Leaf) → NotIn id (before ++ p ∷ behind) → p.id ≢ id
not-in-midst id [] p behind h = h.0
not-in-midst id (b ∷ before) p behind h = not-in-midst id before p behind h.1

pub apart-before : (before : List Leaf) (p : Leaf) (behind : List Leaf) → Apart (before ++ p ∷ behind) → NotIn p.id before
apart-before [] p behind h = tt
apart-before (b ∷ before) p behind h = ((λ e. not-in-midst b.id before p behind h.0 (sym e)), apart-before before p behind h.1)

pub apart-behind : (before : List Leaf) (p : Leaf) (behind : List Leaf) → Apart (before ++ p ∷ behind) → NotIn p.id behind
apart-behind [] p behind h = h.0
apart-behind (b ∷ before) p behind h = apart-behind before p behind h.1

keeps-same : (before : List Leaf) (p q : Leaf) (behind : List Leaf) → q.id ≡ p.id → q.low ≡ p.low → Keeps (before ++ p ∷ behind) (before ++ q ∷ behind)
keeps-same [] p q behind e low key id (inl h) = inl (e ∙ h.0, subst (λ low. IsUpTo low key) (sym low) h.1)
keeps-same [] p q behind e low key id (inr h) = inr h
keeps-same (b ∷ before) p q behind e low key id (inl h) = inl h
keeps-same (b ∷ before) p q behind e low key id (inr h) = inr (keeps-same before p q behind e low key id h)

looks-other : (before : List Leaf) (p q : Leaf) (behind : List Leaf) (key : List ℕ) → q.right ≡ p.right → look_in q.entries key ≡ look_in p.entries key
    → look (before ++ q ∷ behind) key ≡ look (before ++ p ∷ behind) key
looks-other [] p q behind key right is = ap (λ right. cond (is_past right key) (look behind key) (look_in q.entries key)) right ∙ ap (λ o. cond (is_past p.right key) (look behind key) o) is
looks-other (b ∷ before) p q behind key right is = ap (λ o. cond (is_past b.right key) o (look_in b.entries key)) (looks-other before p q behind key right is)

module _ (R Q : Records) (root : Rid) (x : Index) (h : Indexes R root x) (key : List ℕ) (id : Rid) (bytes : List ℕ) (home : IsHome R h.leaves key id bytes) (es : List Entry) (found : Option Spot)
    (same : SameBut R Q root.page.store id) where
  abbrev store : ℕ
  store = root.page.store

  abbrev pub changed : Leaf
  changed = record home.leaf { entries = es }

  in-place : Apart (home.before ++ home.leaf ∷ home.behind)
  in-place = subst Apart home.all h.apart

  is-there : home.leaf.id.page.store ≡ store
  is-there = (at-home R root x h key id bytes home).back.1

  was-leaf : NoInner R store id
  was-leaf node here reads level =
      level (ap (λ (n : Node). n.level) (one_node bytes node (node_of home.leaf) (same_node R id bytes node home.there reads) home.reads))

  new-chain : ReadsNode Q id (node_of changed) → RiseFrom home.leaf.low es home.leaf.right → Chain Q store (Some ([], h.first)) (home.before ++ changed ∷ home.behind) None
  new-chain reads rise =
      let c = at-home R root x h key id bytes home in
      let here = home.here in
      let same_here : SameBut R Q store home.leaf.id = subst (λ id. SameBut R Q store id) (sym here) same in
      join Q store (Some ([], h.first)) home.before (changed ∷ home.behind) c.mid None
      (kept-chain R Q store home.leaf.id (Some ([], h.first)) home.before c.mid same_here (apart-before home.before home.leaf home.behind in-place) c.front) (
        c.back.0,
        c.back.1,
        subst (λ id. ReadsNode Q id (node_of changed)) (sym here) reads,
        c.back.3,
        rise,
        kept-chain R Q store home.leaf.id (way_to store home.leaf.right) home.behind None same_here (apart-behind home.before home.leaf home.behind in-place) c.back.5,
      )

  pub with-leaf : ReadsNode Q id (node_of changed) → RiseFrom home.leaf.low es home.leaf.right → ((k : List ℕ) → look_in es k ≡ with_at key found (look_in home.leaf.entries) k)
      → Indexes Q root (with_at key found x)
  with-leaf reads rise looks =
      remade R Q root x (with_at key found x) h id (home.before ++ changed ∷ home.behind) same was-leaf
      (λ node here other level. level (ap (λ (n : Node). n.level) (one_node reads.bytes node (node_of changed) (same_node Q id reads.bytes node reads.there other) reads.reads)))
      (λ k at l. keeps-same home.before home.leaf changed home.behind refl refl k at (subst (λ ls. IsLeafFor ls k at) home.all l))
      (new-chain reads rise) (apart-same home.before home.leaf changed home.behind refl in-place) is
    where
      is : (k : List ℕ) → look (home.before ++ changed ∷ home.behind) k ≡ with_at key found x k
      is k = of (pointwise nat_eq key k) refl
        where
          of : (b : Bool) → pointwise nat_eq key k ≡ b → look (home.before ++ changed ∷ home.behind) k ≡ with_at key found x k
          of true e =
              let it : key ≡ k = same_texts key k e in
              subst (λ k. look (home.before ++ changed ∷ home.behind) k ≡ with_at key found x k) it
              (looks-at R root x h key id bytes home changed refl ∙ looks key ∙ ap (λ b. cond b found (look_in home.leaf.entries key)) (same_text key)
              ∙ sym (ap (λ b. cond b found (x key)) (same_text key)))
          of false e =
              looks-other home.before home.leaf changed home.behind k refl (looks k ∙ ap (λ b. cond b found (look_in home.leaf.entries k)) e)
              ∙ ap (λ ls. look ls k) (sym home.all) ∙ h.is k ∙ sym (ap (λ b. cond b found (x k)) e)
