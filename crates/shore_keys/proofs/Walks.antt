-- A search that goes from node to node.
use Rattle.std.proofs.Common.{◌≡◌, ◌≢◌, ◌⊎◌, inl, inr, ℕ, List, [], ◌∷◌, ◌++◌, Bool, true, false, Option, Some, None, Result, Ok, Err, refl, sym, ap, subst, ◌∙◌, append_assoc}
use Rattle.std.specs.Prelude.{IsSomeAnd, option_map}
use Rattle.std.specs.FinMap.{get}
use Rattle.std.proofs.lemmas.Option.{same_Some, none-some}
use Rattle.shore_types.specs.declared.ids.Rid.{Rid}
use Rattle.shore_model.specs.Records.{Records}
use Rattle.shore_keys.specs.declared.refusals.Refusal.{Refusal}
use Rattle.shore_keys.specs.Nodes.{◌>>=◌, Entry, Front, Node, entries_at, front_at, node_at}
use Rattle.shore_keys.specs.Orders.{IsUpTo}
use Rattle.shore_keys.specs.Trees.{AllLead, BeginsUpTo, Chain, EndsFrom, Index, Indexes, IsHome, IsIn, Leaf, Leads, LeadsToInner, LeadsToLeaf, ReadsNode, RightLeads, RiseFrom, Spot, Way, child, id_in, is_past, node_of, way_to}
use Rattle.shore_keys.specs.Steps.{GoesTo, IsEntryUpTo, IsNext, IsPast}
use Rattle.shore_keys.proofs.KeyOrder.{upto-from_empty, upto-trans}

-- ---- the front of a node that is read

pub record FrontOf (node : Node) (f : Front) : Type 0 where
  pub level : node.level ≡ f.level
  pub right : node.right ≡ f.right
  pub entries : entries_at f.count f.body ≡ Some node.entries

pub front_is : (bytes : List ℕ) (node : Node) (f : Front) → node_at bytes ≡ Some node → front_at bytes ≡ Some f → FrontOf node f
unfolding node_at
front_is bytes node f e front = of (entries_at f.count f.body) refl
  where
    at_front : option_map (λ (es : List Entry). record { level = f.level; right = f.right; entries = es }) (entries_at f.count f.body) ≡ Some node
    at_front = ap (λ (o : Option Front). o >>= λ f. option_map (λ (es : List Entry). record { level = f.level; right = f.right; entries = es }) (entries_at f.count f.body)) (sym front) ∙ e

    of : (o : Option (List Entry)) → entries_at f.count f.body ≡ o → FrontOf node f
    of None none = absurd (none-some node (sym (ap (option_map (λ (es : List Entry). record { level = f.level; right = f.right; entries = es })) none) ∙ at_front))
    of (Some es) some =
        let made : Node = record { level = f.level; right = f.right; entries = es } in
        let same : made ≡ node = same_Some made node (sym (ap (option_map (λ (es : List Entry). record { level = f.level; right = f.right; entries = es })) some) ∙ at_front) in
        record { level = sym (ap (λ (n : Node). n.level) same); right = sym (ap (λ (n : Node). n.right) same); entries = some ∙ ap (λ (n : Node). Some n.entries) same }

pub no_front : (bytes : List ℕ) (node : Node) → node_at bytes ≡ Some node → front_at bytes ≡ None → ⊥
unfolding node_at
no_front bytes node e none =
    none-some node (ap (λ (o : Option Front). o >>= λ f. option_map (λ (es : List Entry). record { level = f.level; right = f.right; entries = es }) (entries_at f.count f.body)) (sym none) ∙ e)

-- where a search goes by its right neighbour, and by an entry
pub goes-past : (store : ℕ) (node : Node) (f : Front) (key : List ℕ) (spot : Spot) (id : Rid) → FrontOf node f → IsPast f.right key (Some spot) → id ≡ id_in store spot.0 spot.1
    → GoesTo store node key id
goes-past store node f key spot id is past here = inl (of node.right (subst (λ right. IsPast right key (Some spot)) (sym is.right) past))
  where
    of : (right : Option Entry) → IsPast right key (Some spot) → IsSomeAnd right (λ e. IsUpTo e.0 key × (id ≡ child store e))
    of None none = absurd none
    of (Some e) h = (h.0, here ∙ ap (λ (s : Spot). id_in store s.0 s.1) h.1)

pub goes-by-entry : (store : ℕ) (node : Node) (key : List ℕ) (spot : Spot) (id : Rid) → node.level ≢ 0 → IsEntryUpTo node.entries key (Some spot) → id ≡ id_in store spot.0 spot.1
    → GoesTo store node key id
goes-by-entry store node key spot id inner e here = inr (inner, (e.0, e.1, e.2, here ∙ ap (λ (s : Spot). id_in store s.0 s.1) e.3))

-- ---- what is read of a chain

pub same_node : (R : Records) (id : Rid) (bytes : List ℕ) (n : Node) → get R id ≡ Some bytes → ReadsNode R id n → node_at bytes ≡ Some n
same_node R id bytes n there h = ap node_at (same_Some bytes h.bytes (sym there ∙ h.there)) ∙ h.reads

pub one_node : (bytes : List ℕ) (m n : Node) → node_at bytes ≡ Some m → node_at bytes ≡ Some n → m ≡ n
one_node bytes m n a b = same_Some m n (sym a ∙ b)

-- a chain of some leaves and others behind them, cut between
pub record Cut (R : Records) (store : ℕ) (from : Way) (xs ys : List Leaf) (to : Way) : Type 0 where
  pub mid : Way
  pub front : Chain R store from xs mid
  pub back : Chain R store mid ys to

pub cut : (R : Records) (store : ℕ) (from : Way) (xs ys : List Leaf) (to : Way) → Chain R store from (xs ++ ys) to → Cut R store from xs ys to
cut R store from [] ys to chain = record { mid = from; front = refl; back = chain }
cut R store from (p ∷ ps) ys to chain =
    let c = cut R store (way_to store p.right) ps ys to chain.5 in
    record { mid = c.mid; front = (chain.0, chain.1, chain.2, chain.3, chain.4, c.front); back = c.back }

pub join : (R : Records) (store : ℕ) (from : Way) (xs ys : List Leaf) (mid to : Way) → Chain R store from xs mid → Chain R store mid ys to → Chain R store from (xs ++ ys) to
join R store from [] ys mid to front back = subst (λ way. Chain R store way ys to) (sym front) back
join R store from (p ∷ ps) ys mid to front back =
    (front.0, front.1, front.2, front.3, front.4, join R store (way_to store p.right) ps ys mid to front.5 back)

-- ---- what leads somewhere

pub leads-up : (R : Records) (leaves : List Leaf) (a b : List ℕ) (id : Rid) → IsUpTo a b → Leads R leaves a id → Leads R leaves b id
leads-up R leaves a b id low (inl h) =
    inl (record { before = h.before; leaf = h.leaf; behind = h.behind; all = h.all; here = h.here; low = upto-trans h.leaf.low a b h.low low })
leads-up R leaves a b id low (inr h) = inr (record { node = h.node; reads = h.reads; inner = h.inner; low = begins h.node.entries h.low })
  where
    begins : (es : List Entry) → BeginsUpTo es a → BeginsUpTo es b
    begins [] none = none
    begins (e ∷ es) up = upto-trans e.0 a b up low

pub all-lead : (R : Records) (store : ℕ) (leaves : List Leaf) (e : Entry) (es : List Entry) → AllLead R store leaves es → IsIn e es → Leads R leaves e.0 (child store e)
all-lead R store leaves e [] all among = absurd among
all-lead R store leaves e (x ∷ xs) all (inl same) = subst (λ (e : Entry). Leads R leaves e.0 (child store e)) same all.0
all-lead R store leaves e (x ∷ xs) all (inr among) = all-lead R store leaves e xs all.1 among

pub right-leads : (R : Records) (store : ℕ) (leaves : List Leaf) (key : List ℕ) (id : Rid) (right : Option Entry) → RightLeads R store leaves right
    → IsSomeAnd right (λ e. IsUpTo e.0 key × (id ≡ child store e)) → Leads R leaves key id × (id.page.store ≡ store)
right-leads R store leaves key id None leads none = absurd none
right-leads R store leaves key id (Some e) leads h =
    (leads-up R leaves e.0 key id h.0 (subst (λ id. Leads R leaves e.0 id) (sym h.1) leads), ap (λ (id : Rid). id.page.store) h.1)

module _ (R : Records) (root : Rid) (x : Index) (h : Indexes R root x) (key : List ℕ) where
  abbrev store : ℕ
  store = root.page.store

  -- a leaf of the chain is read so
  pub reads-leaf : (before behind : List Leaf) (leaf : Leaf) → h.leaves ≡ before ++ leaf ∷ behind → ReadsNode R leaf.id (node_of leaf) × Chain R store (way_to store leaf.right) behind None
  reads-leaf before behind leaf all =
      let c = cut R store (Some ([], h.first)) before (leaf ∷ behind) None (subst (λ ls. Chain R store (Some ([], h.first)) ls None) all h.chain) in
      (c.back.2, c.back.5)

  -- what leads somewhere is read there
  pub record Read (at : Rid) : Type 0 where
    pub node : Node
    pub reads : ReadsNode R at node

  pub reads-there : (at : Rid) → Leads R h.leaves key at → Read at
  reads-there at (inl l) =
      let r = (reads-leaf l.before l.behind l.leaf l.all).0 in
      record { node = node_of l.leaf; reads = subst (λ id. ReadsNode R id (node_of l.leaf)) l.here r }
  reads-there at (inr i) = record { node = i.node; reads = i.reads }

  -- the leaf behind one, which is its right neighbour
  next-leaf : (before behind : List Leaf) (leaf : Leaf) (e : Entry) → h.leaves ≡ before ++ leaf ∷ behind → Chain R store (Some (e.0, child store e)) behind None → IsUpTo e.0 key
      → LeadsToLeaf h.leaves key (child store e)
  next-leaf before [] leaf e all chain low = absurd (none-some (e.0, child store e) (sym chain))
  next-leaf before (p ∷ ps) leaf e all chain low =
      let same = same_Some (e.0, child store e) (p.low, p.id) chain.0 in
      record {
        before = before ++ leaf ∷ [];
        leaf = p;
        behind = ps;
        all = all ∙ sym (append_assoc before (leaf ∷ []) (p ∷ ps));
        here = sym (ap (λ (w : List ℕ × Rid). w.1) same);
        low = subst (λ (low : List ℕ). IsUpTo low key) (ap (λ (w : List ℕ × Rid). w.0) same) low;
      }

  pub leaf-goes : (l : Leaf) (before behind : List Leaf) (id : Rid) → h.leaves ≡ before ++ l ∷ behind → (right : Option Entry) → Chain R store (way_to store right) behind None
      → IsSomeAnd right (λ e. IsUpTo e.0 key × (id ≡ child store e)) → Leads R h.leaves key id × (id.page.store ≡ store)
  leaf-goes l before behind id all None chain none = absurd none
  leaf-goes l before behind id all (Some e) chain g =
      (subst (λ id. Leads R h.leaves key id) (sym g.1) (inl (next-leaf before behind l e all chain g.0)), ap (λ (id : Rid). id.page.store) g.1)

  -- a step of a search
  pub goes-on : (at id : Rid) (bytes : List ℕ) (node : Node) → Leads R h.leaves key at → at.page.store ≡ store → get R at ≡ Some bytes → node_at bytes ≡ Some node
      → GoesTo store node key id → Leads R h.leaves key id × (id.page.store ≡ store)
  goes-on at id bytes node (inl l) here there reads goes =
      let r = reads-leaf l.before l.behind l.leaf l.all in
      let same : node ≡ node_of l.leaf = one_node bytes node (node_of l.leaf) reads (same_node R at bytes (node_of l.leaf) there (subst (λ id. ReadsNode R id (node_of l.leaf)) l.here r.0)) in
      of (subst (λ node. GoesTo store node key id) same goes)
    where
      of : GoesTo store (node_of l.leaf) key id → Leads R h.leaves key id × (id.page.store ≡ store)
      of (inl g) = leaf-goes l.leaf l.before l.behind id l.all l.leaf.right (reads-leaf l.before l.behind l.leaf l.all).1 g
      of (inr g) = absurd (g.0 refl)
  goes-on at id bytes node (inr i) here there reads goes =
      let same : i.node ≡ node = one_node bytes i.node node (same_node R at bytes i.node there i.reads) reads in
      let lead = h.inner at node here (record { bytes = bytes; there = there; reads = reads }) (subst (λ (n : Node). n.level ≢ 0) same i.inner) in
      of lead.0 lead.1 goes
    where
      of : AllLead R store h.leaves node.entries → RightLeads R store h.leaves node.right → GoesTo store node key id → Leads R h.leaves key id × (id.page.store ≡ store)
      of all right (inl g) = right-leads R store h.leaves key id node.right right g
      of all right (inr g) =
          (subst (λ id. Leads R h.leaves key id) (sym g.1.3) (leads-up R h.leaves g.1.0.0 key (child store g.1.0) g.1.2 (all-lead R store h.leaves g.1.0 node.entries all g.1.1)), ap (λ (id : Rid). id.page.store) g.1.3)

  -- its end
  pub is-home : (at : Rid) (bytes : List ℕ) (node : Node) → Leads R h.leaves key at → get R at ≡ Some bytes → node_at bytes ≡ Some node → node.level ≡ 0 → is_past node.right key ≡ false
      → IsHome R h.leaves key at bytes
  is-home at bytes node (inl l) there reads level within =
      let r = reads-leaf l.before l.behind l.leaf l.all in
      let same : node ≡ node_of l.leaf = one_node bytes node (node_of l.leaf) reads (same_node R at bytes (node_of l.leaf) there (subst (λ id. ReadsNode R id (node_of l.leaf)) l.here r.0)) in
      record {
        before = l.before;
        leaf = l.leaf;
        behind = l.behind;
        all = l.all;
        here = l.here;
        low = l.low;
        within = subst (λ (n : Node). is_past n.right key ≡ false) same within;
        there = there;
        reads = reads ∙ ap (λ (n : Node). Some n) same;
      }
  is-home at bytes node (inr i) there reads level within =
      let same : i.node ≡ node = one_node bytes i.node node (same_node R at bytes i.node there i.reads) reads in
      absurd (i.inner (ap (λ (n : Node). n.level) same ∙ level))

  -- it is not refused because of what it read
  pub goes-somewhere : (at : Rid) (bytes : List ℕ) (node : Node) → Leads R h.leaves key at → get R at ≡ Some bytes → node_at bytes ≡ Some node → node.level ≢ 0
      → (BeginsUpTo node.entries key → ⊥) → ⊥
  goes-somewhere at bytes node (inl l) there reads inner none =
      let r = reads-leaf l.before l.behind l.leaf l.all in
      let same : node ≡ node_of l.leaf = one_node bytes node (node_of l.leaf) reads (same_node R at bytes (node_of l.leaf) there (subst (λ id. ReadsNode R id (node_of l.leaf)) l.here r.0)) in
      inner (ap (λ (n : Node). n.level) same)
  goes-somewhere at bytes node (inr i) there reads inner none =
      let same : i.node ≡ node = one_node bytes i.node node (same_node R at bytes i.node there i.reads) reads in
      none (subst (λ (n : Node). BeginsUpTo n.entries key) same i.low)

  pub begins-at-root : Leads R h.leaves key root
  begins-at-root = leads-up R h.leaves [] key root (upto-from_empty key) h.root_leads
