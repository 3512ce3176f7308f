-- A write of an inner node, and what the map is then.
use Rattle.std.proofs.Common.{◌≡◌, ◌≢◌, ◌⊎◌, inl, inr, ℕ, List, [], ◌∷◌, ◌++◌, Option, Some, None, refl, sym, ap, subst, ◌∙◌}
use Rattle.std.specs.FinMap.{get}
use Rattle.std.proofs.lemmas.Option.{none-some}
use Rattle.shore_types.specs.declared.ids.Rid.{Rid}
use Rattle.shore_model.specs.declared.progress.Progress.{Progress}
use Rattle.shore_model.specs.Records.{Records}
use Rattle.shore_keys.specs.declared.maps.KeyMap.{KeyMap}
use Rattle.shore_keys.specs.Calls.{wrote}
use Rattle.shore_keys.specs.Exchanges.{seen}
use Rattle.shore_keys.specs.Maps.{IsValue, Map, Represents}
use Rattle.shore_keys.specs.Nodes.{Entry, Node, node_at}
use Rattle.shore_keys.specs.Trees.{AllLead, BeginsUpTo, Index, Indexes, Leads, NotIn, ReadsNode, RightLeads, Spot, id_in}
use Rattle.shore_keys.proofs.Changes.{SameBut, not-there}
use Rattle.shore_keys.proofs.InnerChanges.{all-still, inner-apart, inner-is, leads-still, right-still}
use Rattle.shore_keys.proofs.Seen.{absent_apart, seen_here, seen_there}
use Rattle.shore_keys.proofs.Walks.{one_node, same_node}

module _ (R : Records) (p : Progress) (k : KeyMap) (m : Map) (rep : Represents (seen R p) k m) (id : Rid) (here : id.page.store ≡ k.root.page.store) (bytes : List ℕ) (node : Node) (reads : node_at bytes ≡ Some node)
    (inner : node.level ≢ 0) (no_leaf : NotIn id rep.indexes.leaves)
    (begins : (n : Node) → ReadsNode (seen R p) id n → n.level ≢ 0 → (k : List ℕ) → BeginsUpTo n.entries k → BeginsUpTo node.entries k) where
  abbrev pub now : Records
  now = seen R (wrote p id bytes)

  abbrev pub read-now : ReadsNode now id node
  read-now = record { bytes = bytes; there = seen_here R p id bytes; reads = reads }

  pub same-but : SameBut (seen R p) now k.root.page.store id
  same-but q there apart = seen_there R p id bytes q apart

  pub lead-now : (es : List Entry) → AllLead (seen R p) k.root.page.store rep.indexes.leaves es → AllLead now k.root.page.store rep.indexes.leaves es
  lead-now = all-still (seen R p) now k.root rep.index rep.indexes id node read-now inner no_leaf begins same-but

  pub right-now : (right : Option Entry) → RightLeads (seen R p) k.root.page.store rep.indexes.leaves right → RightLeads now k.root.page.store rep.indexes.leaves right
  right-now = right-still (seen R p) now k.root rep.index rep.indexes id node read-now inner no_leaf begins same-but

  pub keeps-value : (found : Option Spot) (v : Option (List ℕ)) → IsValue (seen R p) k.values found v → IsValue now k.values found v
  keeps-value None v was = was
  keeps-value (Some s) v was = (was.0, seen_there R p id bytes (id_in k.values s.0 s.1) (λ e. rep.stores (ap (λ (id : Rid). id.page.store) e ∙ here)) ∙ was.1, was.2)

  abbrev pub inner-written : AllLead now k.root.page.store rep.indexes.leaves node.entries → RightLeads now k.root.page.store rep.indexes.leaves node.right → Represents now k m
  inner-written all right = record {
    index = rep.index;
    indexes = inner-is (seen R p) now k.root rep.index rep.indexes id node read-now inner no_leaf begins same-but all right;
    valued = λ other. keeps-value (rep.index other) (m other) (rep.valued other);
    own = rep.own;
    stores = rep.stores;
  }

-- no node is where no record is
pub begins-absent : (R : Records) (id : Rid) (node : Node) → get R id ≡ None → (n : Node) → ReadsNode R id n → n.level ≢ 0 → (k : List ℕ) → BeginsUpTo n.entries k → BeginsUpTo node.entries k
begins-absent R id node none n reads inner k low = absurd (none-some reads.bytes (sym none ∙ reads.there))

pub begins-instead : (R : Records) (id : Rid) (was node : Node) → ReadsNode R id was → ((k : List ℕ) → BeginsUpTo was.entries k → BeginsUpTo node.entries k)
    → (n : Node) → ReadsNode R id n → n.level ≢ 0 → (k : List ℕ) → BeginsUpTo n.entries k → BeginsUpTo node.entries k
begins-instead R id was node reads begins n there inner k low =
    begins k (subst (λ (n : Node). BeginsUpTo n.entries k) (one_node reads.bytes n was (same_node R id reads.bytes n reads.there there) reads.reads) low)

-- an inner node more, and another one that changes then
module _ (R : Records) (p : Progress) (k : KeyMap) (m : Map) (rep : Represents (seen R p) k m) (new : Rid) (here : new.page.store ≡ k.root.page.store) (none : get (seen R p) new ≡ None)
    (text : List ℕ) (more : Node) (reads : node_at text ≡ Some more) (inner : more.level ≢ 0)
    (all : AllLead (seen R p) k.root.page.store rep.indexes.leaves more.entries) (right : RightLeads (seen R p) k.root.page.store rep.indexes.leaves more.right) where
  pub no-leaf : NotIn new rep.indexes.leaves
  no-leaf = not-there (seen R p) k.root.page.store new (Some ([], rep.indexes.first)) rep.indexes.leaves None (λ q n there r. absent_apart (seen R p) new q r.bytes none r.there) rep.indexes.chain

  abbrev pub q : Progress
  q = wrote p new text

  abbrev begins : (n : Node) → ReadsNode (seen R p) new n → n.level ≢ 0 → (k : List ℕ) → BeginsUpTo n.entries k → BeginsUpTo more.entries k
  begins = begins-absent (seen R p) new more none

  abbrev pub inner-more : Represents (seen R q) k m
  inner-more =
      inner-written R p k m rep new here text more reads inner no-leaf begins
      (lead-now R p k m rep new here text more reads inner no-leaf begins more.entries all) (right-now R p k m rep new here text more reads inner no-leaf begins more.right right)

  module _ (at : Rid) (store : at.page.store ≡ k.root.page.store) (bytes : List ℕ) (there : get (seen R p) at ≡ Some bytes) (was : Node) (read : node_at bytes ≡ Some was) (level : was.level ≢ 0) (changed : List ℕ) (node : Node)
      (reads_now : node_at changed ≡ Some node) (level_now : node.level ≢ 0) (begins_now : (k : List ℕ) → BeginsUpTo was.entries k → BeginsUpTo node.entries k) where
    pub apart : at ≢ new
    apart = absent_apart (seen R p) new at bytes none there

    abbrev was-there : ReadsNode (seen R q) at was
    was-there = record { bytes = bytes; there = seen_there R p new text at apart ∙ there; reads = read }

    no-leaf-there : NotIn at rep.indexes.leaves
    no-leaf-there = inner-apart (seen R p) k.root.page.store at was (record { bytes = bytes; there = there; reads = read }) level (Some ([], rep.indexes.first)) rep.indexes.leaves None rep.indexes.chain

    begins-there : (n : Node) → ReadsNode (seen R q) at n → n.level ≢ 0 → (k : List ℕ) → BeginsUpTo n.entries k → BeginsUpTo node.entries k
    begins-there = begins-instead (seen R q) at was node was-there begins_now

    -- what leads somewhere among the entries, and to the new one
    pub leads-then : (es : List Entry) → AllLead (seen R p) k.root.page.store rep.indexes.leaves es → AllLead (seen R (wrote q at changed)) k.root.page.store rep.indexes.leaves es
    leads-then es lead =
        lead-now R q k m inner-more at store changed node reads_now level_now no-leaf-there begins-there es (lead-now R p k m rep new here text more reads inner no-leaf begins es lead)

    pub leads-new : (key : List ℕ) → BeginsUpTo more.entries key → Leads (seen R (wrote q at changed)) rep.indexes.leaves key new
    leads-new key low = inr (record {
      node = more;
      reads = record { bytes = text; there = seen_there R q at changed new (λ e. apart (sym e)) ∙ seen_here R p new text; reads = reads };
      inner = inner;
      low = low;
    })

    pub both-written : AllLead (seen R (wrote q at changed)) k.root.page.store rep.indexes.leaves node.entries → RightLeads (seen R (wrote q at changed)) k.root.page.store rep.indexes.leaves node.right
        → Represents (seen R (wrote q at changed)) k m
    both-written = inner-written R q k m inner-more at store changed node reads_now level_now no-leaf-there begins-there
