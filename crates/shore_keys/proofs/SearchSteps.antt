-- The steps of a search, over the calls that it makes.
use Rattle.std.proofs.Common.{◌≡◌, ◌≢◌, ◌⊎◌, inl, inr, ℕ, List, [], Option, Some, None, Result, Ok, Err, refl, sym, ap, subst, ◌∙◌}
use Rattle.std.proofs.lemmas.List.{append-nil}
use Rattle.std.specs.FinMap.{get}
use Rattle.shore_types.specs.declared.ids.Rid.{Rid}
use Rattle.shore_model.specs.declared.calls.Exchange.{Exchange}
use Rattle.shore_model.specs.declared.progress.Progress.{Progress}
use Rattle.shore_model.specs.Records.{Records}
use Rattle.shore_keys.specs.declared.refusals.Refusal.{Refusal}
use Rattle.shore_keys.specs.declared.refusals.Refusal.TheVariants.{Damaged, TooFar}
use Rattle.shore_keys.specs.declared.searching.Home.{Home}
use Rattle.shore_keys.specs.Calls.{Gets, HasGot}
use Rattle.shore_keys.specs.Exchanges.{AtItsTurn, GoesOn, seen}
use Rattle.shore_keys.specs.Nodes.{Node, node_at}
use Rattle.shore_keys.specs.Steps.{Arrives, Comes, HasArrived, IsNext}
use Rattle.shore_keys.specs.Trees.{Index, Indexes, IsHome, Leads}
use Rattle.shore_keys.proofs.Turns.{goes-as, goes-then}
use Rattle.shore_keys.proofs.Walks.{begins-at-root, goes-on, goes-somewhere, is-home, reads-there, same_node}

abbrev Coming : Rid → List ℕ → Rid → Records → Progress → Progress → Type 0
Coming root key at R p q = (x : Index) (h : Indexes (seen R p) root x) → (q ≡ p) × Leads (seen R p) h.leaves key at × (at.page.store ≡ root.page.store)

abbrev Got : Rid → Result (List ℕ) Refusal → Records → Progress → Progress → Type 0
Got id r R p q = (q ≡ p) × HasGot (seen R p) id r

abbrev Arrived : Rid → List ℕ → Result Home Refusal → Records → Progress → Progress → Type 0
Arrived root key s R p q = (x : Index) (h : Indexes (seen R p) root x) → (q ≡ p) × HasArrived (seen R p) root x h key s

pub starts : (root : Rid) (key : List ℕ) (a : List Exchange) → GoesOn (Comes root key root) a a
starts root key a = record {
  made = [];
  on = sym (append-nil a);
  holds = λ most R p may x h. (refl, begins-at-root (seen R p) root x h key, refl);
}

module _ (root : Rid) (key : List ℕ) (at : Rid) (a b c : List Exchange) (r : Result (List ℕ) Refusal) (came : GoesOn (Comes root key at) a b) (got : GoesOn (Gets at r) b c) where
  -- what was got is there, and is read as a node
  there : (R : Records) (p q : Progress) (bytes : List ℕ) → r ≡ Ok bytes → q ≡ p → HasGot (seen R q) at r → get (seen R p) at ≡ Some bytes
  there R p q bytes is same k = subst (λ q. HasGot (seen R q) at (Ok bytes)) same (subst (HasGot (seen R q) at) is k)

  pub goes-there : (bytes : List ℕ) (id : Rid) (n : Result (Option Rid) Refusal) → r ≡ Ok bytes → ((node : Node) → node_at bytes ≡ Some node → IsNext root.page.store node key n)
      → n ≡ Ok (Some id) → GoesOn (Comes root key id) a c
  goes-there bytes id n is next so =
      goes-then (Coming root key at) (Got at r) (Coming root key id) a b c came got
      (λ R p q t h k x i.
      let now = h x i in
      let here = there R p q bytes is now.0 k.1 in
      let read = reads-there (seen R p) root x i key at now.1 in
      let reads = same_node (seen R p) at bytes read.node here read.reads in
      let goes = goes-on (seen R p) root x i key at id bytes read.node now.1 now.2 here reads (subst (IsNext root.page.store read.node key) so (next read.node reads)) in
      (k.0 ∙ now.0, goes.0, goes.1))

  pub arrives-there : (bytes : List ℕ) (home : Home) (n : Result (Option Rid) Refusal) (s : Result Home Refusal) → r ≡ Ok bytes → ((node : Node) → node_at bytes ≡ Some node → IsNext root.page.store node key n)
      → n ≡ Ok None → home.id ≡ at → home.bytes ≡ bytes → s ≡ Ok home → GoesOn (Arrives root key s) a c
  arrives-there bytes home n s is next none id text so =
      goes-then (Coming root key at) (Got at r) (Arrived root key s) a b c came got
      (λ R p q t h k x i.
      let now = h x i in
      let here = there R p q bytes is now.0 k.1 in
      let read = reads-there (seen R p) root x i key at now.1 in
      let reads = same_node (seen R p) at bytes read.node here read.reads in
      let ends = subst (IsNext root.page.store read.node key) none (next read.node reads) in
      let arrived = is-home (seen R p) root x i key at bytes read.node now.1 here reads ends.0 ends.1 in (
        k.0 ∙ now.0,
        subst (HasArrived (seen R p) root x i key) (sym so)
            (subst (λ at. IsHome (seen R p) i.leaves key at home.bytes) (sym id) (subst (λ text. IsHome (seen R p) i.leaves key at text) (sym text) arrived), ap (λ (id : Rid). id.page.store) id ∙ now.2),
      ))

  pub stops-at-get : (s : Result Home Refusal) (f : Refusal) → r ≡ Err f → s ≡ Err f → GoesOn (Arrives root key s) a c
  stops-at-get s f is so =
      goes-then (Coming root key at) (Got at r) (Arrived root key s) a b c came got
      (λ R p q t h k x i.
      let now = h x i in
      (k.0 ∙ now.0, subst (HasArrived (seen R p) root x i key) (sym so) (subst (HasGot (seen R q) at) is k.1)))

  pub never-stops : (bytes : List ℕ) (n : Result (Option Rid) Refusal) (s : Result Home Refusal) (f : Refusal) → r ≡ Ok bytes
      → ((node : Node) → node_at bytes ≡ Some node → IsNext root.page.store node key n) → n ≡ Err f → GoesOn (Arrives root key s) a c
  never-stops bytes n s f is next err =
      goes-then (Coming root key at) (Got at r) (Arrived root key s) a b c came got
      (λ R p q t h k x i.
      let now = h x i in
      let here = there R p q bytes is now.0 k.1 in
      let read = reads-there (seen R p) root x i key at now.1 in
      let reads = same_node (seen R p) at bytes read.node here read.reads in
      let stops = subst (IsNext root.page.store read.node key) err (next read.node reads) in
      absurd (goes-somewhere (seen R p) root x i key at bytes read.node now.1 here reads stops.0 stops.1))

pub too-far : (root : Rid) (key : List ℕ) (at : Rid) (a b : List Exchange) → GoesOn (Comes root key at) a b → GoesOn (Arrives root key (Err TooFar)) a b
too-far root key at a b x =
    goes-as (Coming root key at) (Arrived root key (Err TooFar)) a b x (λ R p q h x i. ((h x i).0, other))
  where
    other : TooFar ≢ Damaged
    other e = cc
