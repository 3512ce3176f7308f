-- A record of the nodes' store becomes an inner node.
use Rattle.std.proofs.Common.{◌≡◌, ◌≢◌, ◌⊎◌, inl, inr, ℕ, List, [], ◌∷◌, ◌++◌, Bool, true, false, cond, Option, Some, None, refl, sym, ap, subst, ◌∙◌}
use Rattle.shore_types.specs.declared.ids.Rid.{Rid}
use Rattle.shore_model.specs.Records.{Records}
use Rattle.shore_keys.specs.Cuts.{place}
use Rattle.shore_keys.specs.Nodes.{Entry, Node}
use Rattle.shore_keys.specs.Orders.{IsUpTo, is_before}
use Rattle.shore_keys.specs.Trees.{AllLead, BeginsUpTo, Chain, Index, Indexes, Leads, Leaf, NotIn, ReadsNode, RightLeads, Spot, Way, child, node_of, way_to}
use Rattle.shore_keys.proofs.Changes.{SameBut, kept-chain, kept-node, same_or_not}
use Rattle.shore_keys.proofs.KeyOrder.{before-upto, upto-trans}
use Rattle.shore_keys.proofs.Walks.{one_node, same_node}

-- no leaf of the chain is an inner node
pub inner-apart : (R : Records) (store : ℕ) (id : Rid) (node : Node) → ReadsNode R id node → node.level ≢ 0 → (from : Way) (ps : List Leaf) (to : Way) → Chain R store from ps to → NotIn id ps
inner-apart R store id node reads inner from [] to chain = tt
inner-apart R store id node reads inner from (p ∷ ps) to chain = (
  (λ e. inner (ap (λ (n : Node). n.level) (one_node reads.bytes node (node_of p) reads.reads (same_node R id reads.bytes (node_of p) reads.there (subst (λ id. ReadsNode R id (node_of p)) e chain.2))))),
  inner-apart R store id node reads inner (way_to store p.right) ps to chain.5,
)

-- a node with an entry more begins no higher
pub begins-placed : (key : List ℕ) (spot : Spot) (es : List Entry) (k : List ℕ) → BeginsUpTo es k → BeginsUpTo (place key spot es) k
begins-placed key spot [] k begins = absurd begins
begins-placed key spot (e ∷ es) k begins = of (is_before key e.0) refl
  where
    of : (b : Bool) → is_before key e.0 ≡ b → BeginsUpTo (place key spot (e ∷ es)) k
    of true below = subst (λ b. BeginsUpTo (cond b ((key, spot.0, spot.1) ∷ e ∷ es) (e ∷ place key spot es)) k) (sym below) (upto-trans key e.0 k (before-upto key e.0 below) begins)
    of false above = subst (λ b. BeginsUpTo (cond b ((key, spot.0, spot.1) ∷ e ∷ es) (e ∷ place key spot es)) k) (sym above) begins

-- an entry more leads somewhere, if it does and the others do
pub all-placed : (R : Records) (store : ℕ) (leaves : List Leaf) (key : List ℕ) (spot : Spot) (es : List Entry) → Leads R leaves key (child store (key, spot.0, spot.1)) → AllLead R store leaves es → AllLead R store leaves (place key spot es)
all-placed R store leaves key spot [] leads all = (leads, tt)
all-placed R store leaves key spot (e ∷ es) leads all = of (is_before key e.0) refl (all-placed R store leaves key spot es leads all.1)
  where
    of : (b : Bool) → is_before key e.0 ≡ b → AllLead R store leaves (place key spot es) → AllLead R store leaves (place key spot (e ∷ es))
    of true it later = subst (λ b. AllLead R store leaves (cond b ((key, spot.0, spot.1) ∷ e ∷ es) (e ∷ place key spot es))) (sym it) (leads, all)
    of false it later = subst (λ b. AllLead R store leaves (cond b ((key, spot.0, spot.1) ∷ e ∷ es) (e ∷ place key spot es))) (sym it) (all.0, later)

-- each of two parts leads, if all do
pub front-lead : (R : Records) (store : ℕ) (leaves : List Leaf) (xs ys : List Entry) → AllLead R store leaves (xs ++ ys) → AllLead R store leaves xs
front-lead R store leaves [] ys all = tt
front-lead R store leaves (x ∷ xs) ys all = (all.0, front-lead R store leaves xs ys all.1)

pub back-lead : (R : Records) (store : ℕ) (leaves : List Leaf) (xs ys : List Entry) → AllLead R store leaves (xs ++ ys) → AllLead R store leaves ys
back-lead R store leaves [] ys all = all
back-lead R store leaves (x ∷ xs) ys all = back-lead R store leaves xs ys all.1

-- where no leaf of the chain is, and no inner node that begins lower
module _ (R Q : Records) (root : Rid) (x : Index) (h : Indexes R root x) (id : Rid) (node : Node) (now : ReadsNode Q id node) (inner : node.level ≢ 0) (no_leaf : NotIn id h.leaves)
    (begins : (n : Node) → ReadsNode R id n → n.level ≢ 0 → (k : List ℕ) → BeginsUpTo n.entries k → BeginsUpTo node.entries k) (same : SameBut R Q root.page.store id) where
  abbrev store : ℕ
  store = root.page.store

  pub leads-still : (k : List ℕ) (at : Rid) → at.page.store ≡ store → Leads R h.leaves k at → Leads Q h.leaves k at
  leads-still k at there (inl l) = inl l
  leads-still k at there (inr i) = of (same_or_not at id)
    where
      of : (at ≡ id) ⊎ (at ≢ id) → Leads Q h.leaves k at
      of (inl e) = inr (record {
        node = node;
        reads = subst (λ at. ReadsNode Q at node) (sym e) now;
        inner = inner;
        low = begins i.node (subst (λ at. ReadsNode R at i.node) e i.reads) i.inner k i.low;
      })
      of (inr other) = inr (record { node = i.node; reads = kept-node R Q at i.node (same at there other) i.reads; inner = i.inner; low = i.low })

  pub all-still : (es : List Entry) → AllLead R store h.leaves es → AllLead Q store h.leaves es
  all-still [] all = tt
  all-still (e ∷ es) all = (leads-still e.0 (child store e) refl all.0, all-still es all.1)

  pub right-still : (right : Option Entry) → RightLeads R store h.leaves right → RightLeads Q store h.leaves right
  right-still None leads = tt
  right-still (Some e) leads = leads-still e.0 (child store e) refl leads

  pub inner-still : AllLead Q store h.leaves node.entries → RightLeads Q store h.leaves node.right → (at : Rid) (n : Node) → at.page.store ≡ store → ReadsNode Q at n → n.level ≢ 0
      → AllLead Q store h.leaves n.entries × RightLeads Q store h.leaves n.right
  inner-still all right at n there reads level = of (same_or_not at id)
    where
      of : (at ≡ id) ⊎ (at ≢ id) → AllLead Q store h.leaves n.entries × RightLeads Q store h.leaves n.right
      of (inl e) =
          let it : node ≡ n = one_node now.bytes node n now.reads (same_node Q id now.bytes n now.there (subst (λ at. ReadsNode Q at n) e reads)) in
          subst (λ (n : Node). AllLead Q store h.leaves n.entries × RightLeads Q store h.leaves n.right) it (all, right)
      of (inr other) =
          let old = h.inner at n there (kept-node Q R at n (sym (same at there other)) reads) level in
          (all-still n.entries old.0, right-still n.right old.1)

  abbrev pub inner-is : AllLead Q store h.leaves node.entries → RightLeads Q store h.leaves node.right → Indexes Q root x
  inner-is all right = record {
    first = h.first;
    leaves = h.leaves;
    chain = kept-chain R Q store id (Some ([], h.first)) h.leaves None same no_leaf h.chain;
    apart = h.apart;
    inner = inner-still all right;
    root_leads = leads-still [] root refl h.root_leads;
    is = h.is;
  }
