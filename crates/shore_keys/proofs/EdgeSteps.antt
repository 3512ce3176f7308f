-- The steps of a search that tells where it goes to a right neighbour.
use Rattle.std.proofs.Common.{◌≡◌, ◌≢◌, ◌⊎◌, inl, inr, ℕ, List, [], Option, Some, None, Result, Ok, Err, refl, sym, ap, subst, ◌∙◌}
use Rattle.std.proofs.lemmas.List.{append-nil}
use Rattle.std.specs.FinMap.{get}
use Rattle.shore_types.specs.declared.ids.Rid.{Rid}
use Rattle.shore_model.specs.declared.calls.Exchange.{Exchange}
use Rattle.shore_model.specs.declared.progress.Progress.{Progress}
use Rattle.shore_model.specs.Records.{Records}
use Rattle.shore_keys.specs.declared.edges.Edge.{Edge}
use Rattle.shore_keys.specs.declared.refusals.Refusal.{Refusal}
use Rattle.shore_keys.specs.declared.refusals.Refusal.TheVariants.{Damaged, TooFar}
use Rattle.shore_keys.specs.Calls.{Gets, HasGot}
use Rattle.shore_keys.specs.Edges.{ComesBy, Crosses, HasEdge, IsEdge, IsUnderWay}
use Rattle.shore_keys.specs.Exchanges.{AtItsTurn, GoesOn, seen}
use Rattle.shore_keys.specs.Nodes.{Entry, Node, node_at}
use Rattle.shore_keys.specs.Orders.{IsUpTo}
use Rattle.shore_keys.specs.Steps.{IsNext}
use Rattle.shore_keys.specs.Trees.{Chain, Index, Indexes, Leads, ReadsNode, RightLeads, Spot, child, node_of, way_to}
use Rattle.shore_keys.proofs.KeyOrder.{upto-itself}
use Rattle.shore_keys.proofs.Turns.{goes-as, goes-then}
use Rattle.shore_keys.proofs.Walks.{begins-at-root, goes-on, goes-somewhere, leaf-goes, one_node, reads-leaf, reads-there, right-leads, same_node}

-- the right neighbour of what a search comes to has the keys that it begins with
right-on : (R : Records) (root : Rid) (x : Index) (h : Indexes R root x) (key : List ℕ) (at : Rid) (bytes : List ℕ) (node : Node) (e : Entry) → Leads R h.leaves key at → at.page.store ≡ root.page.store → get R at ≡ Some bytes
    → node_at bytes ≡ Some node → node.right ≡ Some e → Leads R h.leaves e.0 (child root.page.store e)
right-on R root x h key at bytes node e (inl l) here there reads right =
    let r = reads-leaf R root x h key l.before l.behind l.leaf l.all in
    let same : node ≡ node_of l.leaf = one_node bytes node (node_of l.leaf) reads (same_node R at bytes (node_of l.leaf) there (subst (λ id. ReadsNode R id (node_of l.leaf)) l.here r.0)) in
    of l.leaf.right (sym (ap (λ (n : Node). n.right) same) ∙ right) r.1
  where
    of : (o : Option Entry) → o ≡ Some e → Chain R root.page.store (way_to root.page.store o) l.behind None → Leads R h.leaves e.0 (child root.page.store e)
    of o is chain =
        (leaf-goes R root x h e.0 l.leaf l.before l.behind (child root.page.store e) l.all (Some e) (subst (λ o. Chain R root.page.store (way_to root.page.store o) l.behind None) is chain) (upto-itself e.0, refl)).0
right-on R root x h key at bytes node e (inr i) here there reads right =
    let same : i.node ≡ node = one_node bytes i.node node (same_node R at bytes i.node there i.reads) reads in
    let lead = h.inner at node here (record { bytes = bytes; there = there; reads = reads }) (subst (λ (n : Node). n.level ≢ 0) same i.inner) in
    (right-leads R root.page.store h.leaves e.0 (child root.page.store e) (Some e) (subst (λ o. RightLeads R root.page.store h.leaves o) right lead.1) (upto-itself e.0, refl)).0

abbrev Under : Rid → List ℕ → Rid → Rid → Records → Progress → Progress → Type 0
Under root key at parent R p q = (x : Index) (h : Indexes (seen R p) root x) → (q ≡ p) × IsUnderWay (seen R p) root h.leaves key at parent

abbrev Got : Rid → Result (List ℕ) Refusal → Records → Progress → Progress → Type 0
Got id r R p q = (q ≡ p) × HasGot (seen R p) id r

abbrev pub Crossed : Rid → Result (Option Edge) Refusal → Records → Progress → Progress → Type 0
Crossed root s R p q = (x : Index) (h : Indexes (seen R p) root x) → (q ≡ p) × HasEdge (seen R p) root x h s

pub edge-starts : (root : Rid) (key : List ℕ) (a : List Exchange) → GoesOn (ComesBy root key root root) a a
edge-starts root key a = record {
  made = [];
  on = sym (append-nil a);
  holds = λ most R p may x h.
      let read = reads-there (seen R p) root x h [] root h.root_leads in
      (refl, record { leads = begins-at-root (seen R p) root x h key; here = refl; store = refl; node = read.node; reads = read.reads });
}

module _ (root : Rid) (key : List ℕ) (at parent : Rid) (a b c : List Exchange) (r : Result (List ℕ) Refusal) (came : GoesOn (ComesBy root key at parent) a b) (got : GoesOn (Gets at r) b c) where
  there : (R : Records) (p q : Progress) (bytes : List ℕ) → r ≡ Ok bytes → q ≡ p → HasGot (seen R q) at r → get (seen R p) at ≡ Some bytes
  there R p q bytes is same k = subst (λ q. HasGot (seen R q) at (Ok bytes)) same (subst (HasGot (seen R q) at) is k)

  pub edge-goes : (bytes : List ℕ) (id : Rid) (n : Result (Option Rid) Refusal) → r ≡ Ok bytes → ((node : Node) → node_at bytes ≡ Some node → IsNext root.page.store node key n)
      → n ≡ Ok (Some id) → GoesOn (ComesBy root key id at) a c
  edge-goes bytes id n is next so =
      goes-then (Under root key at parent) (Got at r) (Under root key id at) a b c came got
      (λ R p q t h k x i.
      let now = h x i in
      let here = there R p q bytes is now.0 k.1 in
      let read = reads-there (seen R p) root x i key at now.1.leads in
      let reads = same_node (seen R p) at bytes read.node here read.reads in
      let goes = goes-on (seen R p) root x i key at id bytes read.node now.1.leads now.1.here here reads (subst (IsNext root.page.store read.node key) so (next read.node reads)) in
      (k.0 ∙ now.0, record { leads = goes.0; here = goes.1; store = now.1.here; node = read.node; reads = read.reads }))

  module _ (s : Result (Option Edge) Refusal) where
    pub edge-none : s ≡ Ok None → GoesOn (Crosses root s) a c
    edge-none so = goes-then (Under root key at parent) (Got at r) (Crossed root s) a b c came got (λ R p q t h k x i. (k.0 ∙ (h x i).0, subst (HasEdge (seen R p) root x i) (sym so) tt))

    pub edge-found : (bytes : List ℕ) (y : List ℕ × Spot) → r ≡ Ok bytes → ((node : Node) → node_at bytes ≡ Some node → (node.right ≡ Some (y.0, y.1.0, y.1.1)) × IsUpTo y.0 key)
        → s ≡ Ok (Some (record { parent = parent; key = y.0; spot = y.1 })) → GoesOn (Crosses root s) a c
    edge-found bytes y is crossing so =
        goes-then (Under root key at parent) (Got at r) (Crossed root s) a b c came got
        (λ R p q t h k x i.
        let now = h x i in
        let here = there R p q bytes is now.0 k.1 in
        let read = reads-there (seen R p) root x i key at now.1.leads in
        let reads = same_node (seen R p) at bytes read.node here read.reads in (
          k.0 ∙ now.0,
          subst (HasEdge (seen R p) root x i) (sym so) (record {
            store = now.1.store;
            node = now.1.node;
            reads = now.1.reads;
            leads = right-on (seen R p) root x i key at bytes read.node (y.0, y.1.0, y.1.1) now.1.leads now.1.here here reads (crossing read.node reads).0;
          }),
        ))

    pub edge-stops : (f : Refusal) → s ≡ Err f → f ≢ Damaged → GoesOn (Crosses root s) a c
    edge-stops f so other = goes-then (Under root key at parent) (Got at r) (Crossed root s) a b c came got (λ R p q t h k x i. (k.0 ∙ (h x i).0, subst (HasEdge (seen R p) root x i) (sym so) other))

    pub edge-stops-get : (f : Refusal) → r ≡ Err f → s ≡ Err f → GoesOn (Crosses root s) a c
    edge-stops-get f is so =
        goes-then (Under root key at parent) (Got at r) (Crossed root s) a b c came got
        (λ R p q t h k x i. (k.0 ∙ (h x i).0, subst (HasEdge (seen R p) root x i) (sym so) (subst (HasGot (seen R q) at) is k.1)))

    pub edge-never : (bytes : List ℕ) (n : Result (Option Rid) Refusal) (f : Refusal) → r ≡ Ok bytes → ((node : Node) → node_at bytes ≡ Some node → IsNext root.page.store node key n) → n ≡ Err f → GoesOn (Crosses root s) a c
    edge-never bytes n f is next err =
        goes-then (Under root key at parent) (Got at r) (Crossed root s) a b c came got
        (λ R p q t h k x i.
        let now = h x i in
        let here = there R p q bytes is now.0 k.1 in
        let read = reads-there (seen R p) root x i key at now.1.leads in
        let reads = same_node (seen R p) at bytes read.node here read.reads in
        let stops = subst (IsNext root.page.store read.node key) err (next read.node reads) in
        absurd (goes-somewhere (seen R p) root x i key at bytes read.node now.1.leads here reads stops.0 stops.1))

pub edge-too-far : (root : Rid) (key : List ℕ) (at parent : Rid) (a b : List Exchange) → GoesOn (ComesBy root key at parent) a b → GoesOn (Crosses root (Err TooFar)) a b
edge-too-far root key at parent a b x =
    goes-as (Under root key at parent) (Crossed root (Err TooFar)) a b x (λ R p q h x i. ((h x i).0, other))
  where
    other : TooFar ≢ Damaged
    other e = cc
