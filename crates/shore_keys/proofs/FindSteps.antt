-- The steps of a find.
use Rattle.std.proofs.Common.{◌≡◌, ◌≢◌, ℕ, List, Option, Some, None, Result, Ok, Err, refl, sym, ap, subst, ◌∙◌}
use Rattle.std.specs.FinMap.{get}
use Rattle.std.proofs.lemmas.Option.{same_Some}
use Rattle.shore_types.specs.declared.ids.Rid.{Rid}
use Rattle.shore_model.specs.declared.calls.Exchange.{Exchange}
use Rattle.shore_model.specs.declared.progress.Progress.{Progress}
use Rattle.shore_model.specs.Records.{Records}
use Rattle.shore_keys.specs.declared.maps.KeyMap.{KeyMap}
use Rattle.shore_keys.specs.declared.refusals.Refusal.{Refusal}
use Rattle.shore_keys.specs.declared.refusals.Refusal.TheVariants.{Damaged}
use Rattle.shore_keys.specs.declared.searching.Home.{Home}
use Rattle.shore_keys.specs.Calls.{Gets, HasGot}
use Rattle.shore_keys.specs.Exchanges.{AtItsTurn, GoesOn, seen}
use Rattle.shore_keys.specs.Maps.{Finds, IsFound, IsValue, Map, Represents}
use Rattle.shore_keys.specs.Nodes.{Node, node_at}
use Rattle.shore_keys.specs.Steps.{Arrives, HasArrived}
use Rattle.shore_keys.specs.Trees.{Index, Indexes, IsHome, Spot, id_in, look_in, node_of}
use Rattle.shore_keys.proofs.Looks.{looks-home}
use Rattle.shore_keys.proofs.Turns.{goes-as, goes-then}

abbrev pub Arrived : Rid → List ℕ → Result Home Refusal → Records → Progress → Progress → Type 0
Arrived root key r R p q = (x : Index) (h : Indexes (seen R p) root x) → (q ≡ p) × HasArrived (seen R p) root x h key r

abbrev pub Got : Rid → Result (List ℕ) Refusal → Records → Progress → Progress → Type 0
Got id r R p q = (q ≡ p) × HasGot (seen R p) id r

abbrev Found : KeyMap → List ℕ → Result (Option (List ℕ)) Refusal → Records → Progress → Progress → Type 0
Found k key s R p q = (m : Map) → Represents (seen R p) k m → (q ≡ p) × IsFound (m key) s

-- what is looked for in the bytes of a leaf
abbrev pub IsSpotIn : List ℕ → List ℕ → Result (Option Spot) Refusal → Type 0
IsSpotIn bytes key o = (node : Node) → node_at bytes ≡ Some node → o ≡ Ok (look_in node.entries key)

ok : {A B : Type 0} (x y : A) → ◌≡◌ {A = Result A B} (Ok x) (Ok y) → x ≡ y
ok x y e = cc

-- .. is what the index has
pub spot-is : (R : Records) (root : Rid) (x : Index) (h : Indexes R root x) (key : List ℕ) (home : Home) (o : Result (Option Spot) Refusal) (spot : Option Spot)
    → IsHome R h.leaves key home.id home.bytes → IsSpotIn home.bytes key o → o ≡ Ok spot → x key ≡ spot
spot-is R root x h key home o spot at looked is =
    sym (looks-home R root x h key home.id home.bytes at)
    ∙ ok (look_in at.leaf.entries key) spot (sym (looked (node_of at.leaf) at.reads) ∙ is)

module _ (k : KeyMap) (key : List ℕ) (a b : List Exchange) (r : Result Home Refusal) (arrives : GoesOn (Arrives k.root key r) a b) (s : Result (Option (List ℕ)) Refusal) where
  pub find-stops-home : (f : Refusal) → r ≡ Err f → s ≡ Err f → GoesOn (Finds k key s) a b
  find-stops-home f is so =
      goes-as (Arrived k.root key r) (Found k key s) a b arrives
      (λ R p q h m rep.
      let at = h rep.index rep.indexes in
      (at.0, subst (IsFound (m key)) (sym so) (subst (HasArrived (seen R p) k.root rep.index rep.indexes key) is at.1)))

  module _ (home : Home) (here : r ≡ Ok home) (o : Result (Option Spot) Refusal) (looked : IsSpotIn home.bytes key o) where
    pub find-reads-leaf : (f : Refusal) → o ≡ Err f → GoesOn (Finds k key s) a b
    find-reads-leaf f is =
        goes-as (Arrived k.root key r) (Found k key s) a b arrives
        (λ R p q h m rep.
        let at = h rep.index rep.indexes in
        let arrived = subst (HasArrived (seen R p) k.root rep.index rep.indexes key) here at.1 in
        absurd (clash (look_in arrived.0.leaf.entries key) f (sym (looked (node_of arrived.0.leaf) arrived.0.reads) ∙ is)))
      where
        clash : (x : Option Spot) (f : Refusal) → ◌≡◌ {A = Result (Option Spot) Refusal} (Ok x) (Err f) → ⊥
        clash x f e = cc

    pub find-nothing : o ≡ Ok None → s ≡ Ok None → GoesOn (Finds k key s) a b
    find-nothing none so =
        goes-as (Arrived k.root key r) (Found k key s) a b arrives
        (λ R p q h m rep.
        let at = h rep.index rep.indexes in
        let arrived = subst (HasArrived (seen R p) k.root rep.index rep.indexes key) here at.1 in
        let nothing : rep.index key ≡ None = spot-is (seen R p) k.root rep.index rep.indexes key home o None arrived.0 looked none in
        (at.0, subst (IsFound (m key)) (sym so) (sym (subst (λ found. IsValue (seen R p) k.values found (m key)) nothing (rep.valued key)))))

    module _ (spot : Spot) (some : o ≡ Ok (Some spot)) (c : List Exchange) (id : Rid) (it : id ≡ id_in k.values spot.0 spot.1) (g : Result (List ℕ) Refusal) (gets : GoesOn (Gets id g) b c) where
      pub find-stops-value : (f : Refusal) → g ≡ Err f → s ≡ Err f → GoesOn (Finds k key s) a c
      find-stops-value f is so =
          goes-then (Arrived k.root key r) (Got id g) (Found k key s) a b c arrives gets
          (λ R p q t h y m rep.
          (y.0 ∙ (h rep.index rep.indexes).0, subst (IsFound (m key)) (sym so) (subst (HasGot (seen R q) id) is y.1)))

      pub find-value : (bytes : List ℕ) → g ≡ Ok bytes → s ≡ Ok (Some bytes) → GoesOn (Finds k key s) a c
      find-value bytes is so =
          goes-then (Arrived k.root key r) (Got id g) (Found k key s) a b c arrives gets
          (λ R p q t h y m rep.
          let at = h rep.index rep.indexes in
          let arrived = subst (HasArrived (seen R p) k.root rep.index rep.indexes key) here at.1 in
          let found : rep.index key ≡ Some spot = spot-is (seen R p) k.root rep.index rep.indexes key home o (Some spot) arrived.0 looked some in
          let value = subst (λ found. IsValue (seen R p) k.values found (m key)) found (rep.valued key) in
          let read : get (seen R p) id ≡ Some bytes = subst (λ q. get (seen R q) id ≡ Some bytes) at.0 (subst (HasGot (seen R q) id) is y.1) in
          let same : bytes ≡ value.0 = same_Some bytes value.0 (sym read ∙ ap (λ id. get (seen R p) id) it ∙ value.1) in
          (y.0 ∙ at.0, subst (IsFound (m key)) (sym so) (ap (λ v. Some v) same ∙ sym value.2)))
