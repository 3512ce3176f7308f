-- The steps of a put.
use Rattle.std.proofs.Common.{◌≡◌, ◌≢◌, ◌⊎◌, inl, inr, ℕ, ◌+◌, ◌<◌, ◌≤◌, List, [], Bool, true, false, cond, Option, Some, None, Result, Ok, Err, refl, sym, ap, subst, ◌∙◌, arith}
use Rattle.std.specs.Prelude.{nat_eq, nat_le, length}
use Rattle.std.proofs.lemmas.Bool.{leb-false, leb-true}
use Rattle.std.specs.FinMap.{get}
use Rattle.std.specs.Cmp.Lexicographic.{pointwise}
use Rattle.std.proofs.lemmas.List.{append-nil}
use Rattle.std.proofs.lemmas.Option.{same_Some}
use Rattle.shore_types.specs.declared.ids.Rid.{Rid}
use Rattle.shore_model.specs.declared.calls.Exchange.{Exchange}
use Rattle.shore_model.specs.declared.progress.Progress.{Progress}
use Rattle.shore_model.specs.Records.{Records}
use Rattle.shore_keys.specs.declared.maps.KeyMap.{KeyMap}
use Rattle.shore_keys.specs.declared.refusals.Refusal.{Refusal}
use Rattle.shore_keys.specs.declared.refusals.Refusal.TheVariants.{Damaged, Full, TooLong}
use Rattle.shore_keys.specs.declared.searching.Home.{Home}
use Rattle.shore_keys.specs.Calls.{HasInserted, HasUpdated, Inserts, Updates, wrote}
use Rattle.shore_keys.specs.Cuts.{IsRoom, IsWithEntry, TailOf, place, with_entry}
use Rattle.shore_keys.specs.Exchanges.{AtItsTurn, GoesOn, Spares, seen}
use Rattle.shore_keys.specs.Homes.{IsNewAt, PutsAtHome}
use Rattle.shore_keys.specs.Maps.{IsPut, IsValue, Map, Puts, Represents, with_at}
use Rattle.shore_keys.specs.Nodes.{Node, node_at}
use Rattle.shore_keys.specs.Steps.{Arrives, HasArrived}
use Rattle.shore_keys.specs.Trees.{Index, Indexes, IsHome, ReadsNode, Spot, id_in, look_in, node_of}
use Rattle.shore_keys.proofs.Changes.{with-leaf}
use Rattle.shore_keys.proofs.FindSteps.{Arrived, IsSpotIn, spot-is}
use Rattle.shore_keys.proofs.Looks.{at-home, looks-home}
use Rattle.shore_keys.proofs.Places.{looks-placed, rises-from}
use Rattle.shore_keys.proofs.Seen.{absent_apart, seen_here, seen_there}
use Rattle.shore_keys.proofs.SameTexts.{same_text, same_texts}
use Rattle.shore_keys.proofs.Spared.{spared-same, spared-then, spared-wrote}
use Rattle.shore_keys.proofs.Turns.{goes-as, goes-then}
use Rattle.shore_keys.proofs.Values.{at-key, at-other, more-is, more-kept, other-store, same-spot, value-is, value-kept}

abbrev Put : {A : Type 0} → KeyMap → List ℕ → List ℕ → Result A Refusal → Records → Progress → Progress → Type 0
Put k key value s R p q = (m : Map) → Represents (seen R p) k m → Spares k.root.page.store k.values R p q × IsPut (seen R q) k m key (Some value) s

abbrev pub PutAtHome : {A : Type 0} → KeyMap → Home → List ℕ → List ℕ → Result A Refusal → Records → Progress → Progress → Type 0
PutAtHome k home key value s R p q =
    (m : Map) (rep : Represents (seen R p) k m) → IsNewAt (seen R p) k m rep home key → Spares k.root.page.store k.values R p q × IsPut (seen R q) k m key (Some value) s

abbrev pub Updated : {A : Type 0} → Rid → List ℕ → Result A Refusal → Records → Progress → Progress → Type 0
Updated id bytes s R p q = HasUpdated id bytes p q s

abbrev Inserted : ℕ → List ℕ → Result Rid Refusal → Records → Progress → Progress → Type 0
Inserted store bytes i R p q = HasInserted (seen R p) store bytes p q i

-- a refusal that leaves all as it was
put-refused : {A : Type 0} (R : Records) (p q : Progress) (k : KeyMap) (m : Map) (key value : List ℕ) (s : Result A Refusal) (f : Refusal) → s ≡ Err f → f ≢ Damaged → q ≡ p → Represents (seen R p) k m
    → Spares k.root.page.store k.values R p q × IsPut (seen R q) k m key (Some value) s
put-refused R p q k m key value s f so other same rep =
    (spared-same same, subst (IsPut (seen R q) k m key (Some value)) (sym so) (other, subst (λ q. Represents (seen R q) k m) (sym same) rep))

pub put-too-long : (A : Type 0) (k : KeyMap) (key value : List ℕ) (a : List Exchange) → GoesOn (Puts {A = A} k key value (Err TooLong)) a a
put-too-long A k key value a = record {
  made = [];
  on = sym (append-nil a);
  holds = λ most R p may m rep. put-refused {A = A} R p p k m key value (Err TooLong) TooLong refl other refl rep;
}
  where
    other : TooLong ≢ Damaged
    other e = cc

module _ {A : Type 0} (k : KeyMap) (key value : List ℕ) (s : Result A Refusal) (a b : List Exchange) (r : Result Home Refusal) (arrives : GoesOn (Arrives k.root key r) a b) where
  pub put-stops-home : (f : Refusal) → r ≡ Err f → s ≡ Err f → GoesOn (Puts k key value s) a b
  put-stops-home f is so =
      goes-as (Arrived k.root key r) (Put k key value s) a b arrives
      (λ R p q h m rep.
      let at = h rep.index rep.indexes in
      put-refused R p q k m key value s f so (subst (HasArrived (seen R p) k.root rep.index rep.indexes key) is at.1) at.0 rep)

  module _ (home : Home) (here : r ≡ Ok home) (o : Result (Option Spot) Refusal) (looked : IsSpotIn home.bytes key o) where
    pub put-reads-leaf : (f : Refusal) → o ≡ Err f → GoesOn (Puts k key value s) a b
    put-reads-leaf f is =
        goes-as (Arrived k.root key r) (Put k key value s) a b arrives
        (λ R p q h m rep.
        let at = h rep.index rep.indexes in
        let arrived = subst (HasArrived (seen R p) k.root rep.index rep.indexes key) here at.1 in
        absurd (clash (look_in arrived.0.leaf.entries key) f (sym (looked (node_of arrived.0.leaf) arrived.0.reads) ∙ is)))
      where
        clash : (x : Option Spot) (f : Refusal) → ◌≡◌ {A = Result (Option Spot) Refusal} (Ok x) (Err f) → ⊥
        clash x f e = cc

    updates-value : (R : Records) (p q t : Progress) (m : Map) (rep : Represents (seen R p) k m) (spot : Spot) (id : Rid) → q ≡ p → rep.index key ≡ Some spot → id ≡ id_in k.values spot.0 spot.1
        → (s : Result A Refusal) → HasUpdated id value q t s → Spares k.root.page.store k.values R p t × IsPut (seen R t) k m key (Some value) s
    updates-value R p q t m rep spot id same found it (Ok done) h =
        let now : t ≡ wrote p (id_in k.values spot.0 spot.1) value = h ∙ ap (λ q. wrote q id value) same ∙ ap (λ id. wrote p id value) it in
        (spared-wrote _ _ (inr refl) now, subst (λ t. Represents (seen R t) k (with_at key (Some value) m)) (sym now) (value-is R p k m rep key value spot found))
    updates-value R p q t m rep spot id same found it (Err f) h = put-refused {A = A} R p t k m key value (Err f) f refl h.0 (h.1 ∙ same) rep

    pub put-value : (spot : Spot) → o ≡ Ok (Some spot) → (c : List Exchange) (id : Rid) → id ≡ id_in k.values spot.0 spot.1 → GoesOn (Updates id value s) b c → GoesOn (Puts k key value s) a c
    put-value spot some c id it updates =
        goes-then (Arrived k.root key r) (Updated id value s) (Put k key value s) a b c arrives updates
        (λ R p q t h u m rep.
        let at = h rep.index rep.indexes in
        let arrived = subst (HasArrived (seen R p) k.root rep.index rep.indexes key) here at.1 in
        let found : rep.index key ≡ Some spot = spot-is (seen R p) k.root rep.index rep.indexes key home o (Some spot) arrived.0 looked some in
        updates-value R p q t m rep spot id at.0 found it s u)

    pub put-at-home : o ≡ Ok None → (c : List Exchange) → GoesOn (PutsAtHome k home key value s) b c → GoesOn (Puts k key value s) a c
    put-at-home none c puts =
        goes-then (Arrived k.root key r) (PutAtHome k home key value s) (Put k key value s) a b c arrives puts
        (λ R p q t h u m rep.
        let at = h rep.index rep.indexes in
        subst (λ (v : Progress). PutAtHome k home key value s R v t → Spares k.root.page.store k.values R p t × IsPut (seen R t) k m key (Some value) s) (sym at.0)
        (λ u.
        let arrived = subst (HasArrived (seen R p) k.root rep.index rep.indexes key) here at.1 in
        let nothing : rep.index key ≡ None = spot-is (seen R p) k.root rep.index rep.indexes key home o None arrived.0 looked none in
        u m rep (record { at = arrived.0; store = arrived.1; none = nothing })) u)

-- ---- a key more

-- the value is inserted, to which nothing leads
pub record Placed (k : KeyMap) (value : List ℕ) (id : Rid) (R : Records) (p q : Progress) : Type 0 where
  pub wrote_it : q ≡ wrote p id value
  pub none : get (seen R p) id ≡ None
  pub store : id.page.store ≡ k.values

pub placed : (k : KeyMap) (value : List ℕ) (a b : List Exchange) (i : Result Rid Refusal) (id : Rid) → GoesOn (Inserts k.values value i) a b → i ≡ Ok id → GoesOn (AtItsTurn (Placed k value id)) a b
placed k value a b i id x is =
    goes-as (Inserted k.values value i) (Placed k value id) a b x
    (λ R p q h. let now = subst (HasInserted (seen R p) k.values value p q) is h in record { wrote_it = now.2; none = now.0; store = now.1 })

module _ {A : Type 0} (k : KeyMap) (home : Home) (key value : List ℕ) (s : Result A Refusal) (a b : List Exchange) where
  pub new-stops-insert : (i : Result Rid Refusal) (f : Refusal) → GoesOn (Inserts k.values value i) a b → i ≡ Err f → s ≡ Err f → GoesOn (PutsAtHome k home key value s) a b
  new-stops-insert i f x is so =
      goes-as (Inserted k.values value i) (PutAtHome k home key value s) a b x
      (λ R p q h m rep at. let now = subst (HasInserted (seen R p) k.values value p q) is h in put-refused R p q k m key value s f so now.0 now.1 rep)

  -- a refusal behind the insert
  pub new-stops-behind : (id : Rid) (f : Refusal) → GoesOn (AtItsTurn (Placed k value id)) a b → s ≡ Err f → f ≢ Damaged → GoesOn (PutsAtHome k home key value s) a b
  new-stops-behind id f x so other =
      goes-as (Placed k value id) (PutAtHome k home key value s) a b x
      (λ R p q h m rep at. (
        spared-wrote _ _ (inr h.store) h.wrote_it,
        subst (IsPut (seen R q) k m key (Some value)) (sym so) (other, subst (λ q. Represents (seen R q) k m) (sym h.wrote_it) (more-is R p k m rep id value h.none h.store)),
      ))

  -- the leaf cannot have been refused because it was not read
  pub new-reads-leaf : (id : Rid) (f : Refusal) (w : Result (Option (List ℕ)) Refusal) → GoesOn (AtItsTurn (Placed k value id)) a b
      → ((node : Node) → node_at home.bytes ≡ Some node → IsWithEntry home.bytes node key (id.page.page, id.slot) w) → w ≡ Err f → s ≡ Err f → GoesOn (PutsAtHome k home key value s) a b
  new-reads-leaf id f w x wrote_so is so =
      goes-as (Placed k value id) (PutAtHome k home key value s) a b x
      (λ R p q h m rep at. (
        spared-wrote _ _ (inr h.store) h.wrote_it,
        subst (IsPut (seen R q) k m key (Some value)) (sym so) (
          subst (IsWithEntry home.bytes (node_of at.at.leaf) key (id.page.page, id.slot)) is (wrote_so (node_of at.at.leaf) at.at.reads),
          subst (λ q. Represents (seen R q) k m) (sym h.wrote_it) (more-is R p k m rep id value h.none h.store),
        ),
      ))

-- whether there is room
pub room-is : (bytes : List ℕ) (node : Node) (key : List ℕ) (t : TailOf bytes node) (long more : ℕ) → long ≡ length t.tail → more ≡ length key + 7 → IsRoom bytes node key (nat_le more long)
room-is bytes node key t long more is so = of (nat_le more long) refl
  where
    of : (b : Bool) → nat_le more long ≡ b → IsRoom bytes node key b
    of true e = (t, let le : more ≤ long = leb-true more long e in omega arith)
    of false e = (t, let lt : long < more = leb-false more long e in omega arith)
