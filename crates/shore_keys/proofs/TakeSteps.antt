-- The steps of a take.
use Rattle.std.proofs.Common.{◌≡◌, ◌≢◌, ◌⊎◌, inl, inr, ℕ, List, [], Bool, true, false, cond, Option, Some, None, Result, Ok, Err, refl, sym, ap, subst, ◌∙◌}
use Rattle.std.specs.Prelude.{is_some, nat_eq}
use Rattle.std.specs.FinMap.{get}
use Rattle.std.specs.Cmp.Lexicographic.{pointwise}
use Rattle.std.proofs.lemmas.Option.{none-some}
use Rattle.shore_types.specs.declared.ids.Rid.{Rid}
use Rattle.shore_model.specs.declared.calls.Exchange.{Exchange}
use Rattle.shore_model.specs.declared.progress.Progress.{Progress}
use Rattle.shore_model.specs.Records.{Records}
use Rattle.shore_keys.specs.declared.maps.KeyMap.{KeyMap}
use Rattle.shore_keys.specs.declared.refusals.Refusal.{Refusal}
use Rattle.shore_keys.specs.declared.refusals.Refusal.TheVariants.{Damaged}
use Rattle.shore_keys.specs.declared.searching.Home.{Home}
use Rattle.shore_keys.specs.Calls.{Deletes, HasDeleted, HasUpdated, Updates, removed, wrote}
use Rattle.shore_keys.specs.Cuts.{IsWithout, drop_key, without}
use Rattle.shore_keys.specs.Exchanges.{AtItsTurn, GoesOn, Spares, seen}
use Rattle.shore_keys.specs.Maps.{IsTaken, IsValue, Map, Represents, Takes, with_at}
use Rattle.shore_keys.specs.Nodes.{Node, node_at}
use Rattle.shore_keys.specs.Steps.{Arrives, HasArrived}
use Rattle.shore_keys.specs.Trees.{Index, Indexes, IsHome, Spot, id_in, look_in, node_of}
use Rattle.shore_keys.proofs.Changes.{kept-tree, with-leaf}
use Rattle.shore_keys.proofs.Drops.{looks-dropped, rises-dropped}
use Rattle.shore_keys.proofs.FindSteps.{Arrived, IsSpotIn, spot-is}
use Rattle.shore_keys.proofs.Looks.{at-home, looks-home}
use Rattle.shore_keys.proofs.SameTexts.{same_text, same_texts}
use Rattle.shore_keys.proofs.Seen.{seen_here, seen_there, seen_without}
use Rattle.shore_keys.proofs.Spared.{spared-removed, spared-same, spared-then, spared-wrote}
use Rattle.shore_keys.proofs.Turns.{goes-as, goes-then}
use Rattle.shore_keys.proofs.Values.{at-key, at-other, other-store, same-spot}

-- ---- the leaf lets the key go

module _ (R : Records) (p : Progress) (k : KeyMap) (m : Map) (rep : Represents (seen R p) k m) (home : Home) (key : List ℕ) (at : IsHome (seen R p) rep.indexes.leaves key home.id home.bytes)
    (store : home.id.page.store ≡ k.root.page.store) (spot : Spot) (here : rep.index key ≡ Some spot) (text : List ℕ) (reads : node_at text ≡ Some (without key (node_of at.leaf))) where
  abbrev now : Records
  now = seen R (wrote p home.id text)

  indexes-now : Indexes now k.root (with_at key None rep.index)
  indexes-now =
      with-leaf (seen R p) now k.root rep.index rep.indexes key home.id home.bytes at (drop_key key at.leaf.entries) None
      (λ other there apart. seen_there R p home.id text other apart)
      (record { bytes = text; there = seen_here R p home.id text; reads = reads })
      (rises-dropped key at.leaf.right at.leaf.low at.leaf.entries (at-home (seen R p) k.root rep.index rep.indexes key home.id home.bytes at).back.4)
      (looks-dropped key at.leaf.right at.leaf.low at.leaf.entries (at-home (seen R p) k.root rep.index rep.indexes key home.id home.bytes at).back.4)

  stays : (found : Option Spot) (v : Option (List ℕ)) → IsValue (seen R p) k.values found v → IsValue now k.values found v
  stays None v was = was
  stays (Some s) v was =
      (was.0, seen_there R p home.id text (id_in k.values s.0 s.1) (λ e. rep.stores (ap (λ (id : Rid). id.page.store) e ∙ store)) ∙ was.1, was.2)

  valued-now : (other : List ℕ) (b : Bool) → pointwise nat_eq key other ≡ b → IsValue now k.values (with_at key None rep.index other) (with_at key None m other)
  valued-now other true e = subst (λ found. IsValue now k.values found (with_at key None m other)) (sym (at-key key other None rep.index e)) (at-key key other None m e)
  valued-now other false e =
      subst (λ found. IsValue now k.values found (with_at key None m other)) (sym (at-other key other None rep.index e))
      (subst (IsValue now k.values (rep.index other)) (sym (at-other key other None m e)) (stays (rep.index other) (m other) (rep.valued other)))

  -- whoever has a place has not the key
  had : (a : List ℕ) (s : Spot) (b : Bool) → pointwise nat_eq key a ≡ b → with_at key None rep.index a ≡ Some s → (pointwise nat_eq key a ≡ false) × (rep.index a ≡ Some s)
  had a s true e f = absurd (none-some s (sym (at-key key a None rep.index e) ∙ f))
  had a s false e f = (e, sym (at-other key a None rep.index e) ∙ f)

  pub gone-is : Represents now k (with_at key None m)
  gone-is = record {
    index = with_at key None rep.index;
    indexes = indexes-now;
    valued = λ other. valued-now other (pointwise nat_eq key other) refl;
    own = λ a b s fa fb. rep.own a b s (had a s (pointwise nat_eq key a) refl fa).1 (had b s (pointwise nat_eq key b) refl fb).1;
    stores = rep.stores;
  }

  -- nobody has the place of its value any more
  unused : (other : List ℕ) → with_at key None rep.index other ≡ Some spot → ⊥
  unused other f =
      let h = had other spot (pointwise nat_eq key other) refl f in
      clash (sym (same_text key) ∙ ap (λ (o : List ℕ). pointwise nat_eq key o) (rep.own key other spot here h.1) ∙ h.0)
    where
      clash : true ≡ false → ⊥
      clash e = cc

  abbrev id : Rid
  id = id_in k.values spot.0 spot.1

  abbrev later : Records
  later = seen R (removed (wrote p home.id text) id)

  lasts : (found : Option Spot) (v : Option (List ℕ)) → (found ≡ Some spot → ⊥) → IsValue now k.values found v → IsValue later k.values found v
  lasts None v other was = was
  lasts (Some s) v other was =
      (was.0, seen_without R (wrote p home.id text) id (id_in k.values s.0 s.1) (λ e. other (ap (λ (s : Spot). Some s) (same-spot k.values s spot e))) ∙ was.1, was.2)

  -- behind the delete of its value's record too
  pub deleted-is : Represents later k (with_at key None m)
  deleted-is = record {
    index = with_at key None rep.index;
    indexes = kept-tree now later k.root (with_at key None rep.index) id (λ q there apart. seen_without R (wrote p home.id text) id q apart)
        (λ q n there r. other-store k.values k.root.page.store q id rep.stores there refl) (λ n there r level. rep.stores there) indexes-now;
    valued = λ other. lasts (with_at key None rep.index other) (with_at key None m other) (unused other) (valued-now other (pointwise nat_eq key other) refl);
    own = λ a b s fa fb. rep.own a b s (had a s (pointwise nat_eq key a) refl fa).1 (had b s (pointwise nat_eq key b) refl fb).1;
    stores = rep.stores;
  }

-- a key that is not there is taken out of it
absent-is : (R : Records) (k : KeyMap) (m : Map) (rep : Represents R k m) (key : List ℕ) → rep.index key ≡ None → Represents R k (with_at key None m)
absent-is R k m rep key none = record {
  index = rep.index;
  indexes = rep.indexes;
  valued = λ other. of other (pointwise nat_eq key other) refl;
  own = rep.own;
  stores = rep.stores;
}
  where
    of : (other : List ℕ) (b : Bool) → pointwise nat_eq key other ≡ b → IsValue R k.values (rep.index other) (with_at key None m other)
    of other true e =
        subst (λ found. IsValue R k.values found (with_at key None m other)) (sym (ap rep.index (sym (same_texts key other e)) ∙ none)) (at-key key other None m e)
    of other false e = subst (IsValue R k.values (rep.index other)) (sym (at-other key other None m e)) (rep.valued other)

-- ---- over the calls

abbrev Taken : KeyMap → List ℕ → Result Bool Refusal → Records → Progress → Progress → Type 0
Taken k key s R p q = (m : Map) → Represents (seen R p) k m → Spares k.root.page.store k.values R p q × IsTaken (seen R q) k m key s

abbrev Updated : {A : Type 0} → Rid → List ℕ → Result A Refusal → Records → Progress → Progress → Type 0
Updated id bytes u R p q = HasUpdated id bytes p q u

abbrev Deleted : {A : Type 0} → Rid → Result A Refusal → Records → Progress → Progress → Type 0
Deleted id d R p q = HasDeleted id p q d

take-refused : (R : Records) (p q : Progress) (k : KeyMap) (m : Map) (key : List ℕ) (s : Result Bool Refusal) (f : Refusal) → s ≡ Err f → f ≢ Damaged → q ≡ p → Represents (seen R p) k m
    → Spares k.root.page.store k.values R p q × IsTaken (seen R q) k m key s
take-refused R p q k m key s f so other same rep =
    (spared-same same, subst (IsTaken (seen R q) k m key) (sym so) (other, subst (λ q. Represents (seen R q) k m) (sym same) rep))

-- the leaf has let the key go
pub record Gone (k : KeyMap) (key : List ℕ) (spot : Spot) (R : Records) (p q : Progress) : Type 0 where
  pub holds : (m : Map) → Represents (seen R p) k m → Spares k.root.page.store k.values R p q × (true ≡ is_some (m key)) × Represents (seen R q) k (with_at key None m)
      × Represents (seen R (removed q (id_in k.values spot.0 spot.1))) k (with_at key None m)

module _ (k : KeyMap) (key : List ℕ) (s : Result Bool Refusal) (a b : List Exchange) (r : Result Home Refusal) (arrives : GoesOn (Arrives k.root key r) a b) where
  pub take-stops-home : (f : Refusal) → r ≡ Err f → s ≡ Err f → GoesOn (Takes k key s) a b
  take-stops-home f is so =
      goes-as (Arrived k.root key r) (Taken k key s) a b arrives
      (λ R p q h m rep.
      let at = h rep.index rep.indexes in
      take-refused R p q k m key s f so (subst (HasArrived (seen R p) k.root rep.index rep.indexes key) is at.1) at.0 rep)

  module _ (home : Home) (here : r ≡ Ok home) (o : Result (Option Spot) Refusal) (looked : IsSpotIn home.bytes key o) where
    pub take-reads-leaf : (f : Refusal) → o ≡ Err f → GoesOn (Takes k key s) a b
    take-reads-leaf f is =
        goes-as (Arrived k.root key r) (Taken k key s) a b arrives
        (λ R p q h m rep.
        let at = h rep.index rep.indexes in
        let arrived = subst (HasArrived (seen R p) k.root rep.index rep.indexes key) here at.1 in
        absurd (clash (look_in arrived.0.leaf.entries key) f (sym (looked (node_of arrived.0.leaf) arrived.0.reads) ∙ is)))
      where
        clash : (x : Option Spot) (f : Refusal) → ◌≡◌ {A = Result (Option Spot) Refusal} (Ok x) (Err f) → ⊥
        clash x f e = cc

    pub take-nothing : o ≡ Ok None → s ≡ Ok false → GoesOn (Takes k key s) a b
    take-nothing none so =
        goes-as (Arrived k.root key r) (Taken k key s) a b arrives
        (λ R p q h m rep.
        let at = h rep.index rep.indexes in
        let arrived = subst (HasArrived (seen R p) k.root rep.index rep.indexes key) here at.1 in
        let nothing : rep.index key ≡ None = spot-is (seen R p) k.root rep.index rep.indexes key home o None arrived.0 looked none in
        let value : m key ≡ None = subst (λ found. IsValue (seen R p) k.values found (m key)) nothing (rep.valued key) in (
          spared-same at.0,
          subst (IsTaken (seen R q) k m key) (sym so) (ap is_some (sym value), subst (λ q. Represents (seen R q) k (with_at key None m)) (sym at.0) (absent-is (seen R p) k m rep key nothing)),
        ))

    module _ (spot : Spot) (some : o ≡ Ok (Some spot)) (w : Result (List ℕ) Refusal) (cut : (node : Node) → node_at home.bytes ≡ Some node → IsWithout home.bytes node key w) where
      pub take-stops-text : (f : Refusal) → w ≡ Err f → s ≡ Err f → GoesOn (Takes k key s) a b
      take-stops-text f is so =
          goes-as (Arrived k.root key r) (Taken k key s) a b arrives
          (λ R p q h m rep.
          let at = h rep.index rep.indexes in
          let arrived = subst (HasArrived (seen R p) k.root rep.index rep.indexes key) here at.1 in
          let found : rep.index key ≡ Some spot = spot-is (seen R p) k.root rep.index rep.indexes key home o (Some spot) arrived.0 looked some in
          let made = subst (IsWithout home.bytes (node_of arrived.0.leaf) key) is (cut (node_of arrived.0.leaf) arrived.0.reads) in
          let there = looks-home (seen R p) k.root rep.index rep.indexes key home.id home.bytes arrived.0 in
          take-refused R p q k m key s f so (λ damaged. none-some spot (sym (made damaged) ∙ there ∙ found)) at.0 rep)

      module _ (text : List ℕ) (is : w ≡ Ok text) {A : Type 0} (c : List Exchange) (u : Result A Refusal) (updates : GoesOn (Updates home.id text u) b c) where
        pub take-stops-update : (f : Refusal) → u ≡ Err f → s ≡ Err f → GoesOn (Takes k key s) a c
        take-stops-update f no_more so =
            goes-then (Arrived k.root key r) (Updated home.id text u) (Taken k key s) a b c arrives updates
            (λ R p q t h y m rep.
            let at = h rep.index rep.indexes in
            let now = subst (HasUpdated {A = A} home.id text q t) no_more y in
            take-refused R p t k m key s f so now.0 (now.1 ∙ at.0) rep)

        gone : (done : A) → u ≡ Ok done → GoesOn (AtItsTurn (Gone k key spot)) a c
        gone done ok =
            goes-then (Arrived k.root key r) (Updated home.id text u) (Gone k key spot) a b c arrives updates
            (λ R p q t h y.
            record {
              holds = λ m rep.
                  let at = h rep.index rep.indexes in
                  let arrived = subst (HasArrived (seen R p) k.root rep.index rep.indexes key) here at.1 in
                  let found : rep.index key ≡ Some spot = spot-is (seen R p) k.root rep.index rep.indexes key home o (Some spot) arrived.0 looked some in
                  let reads = (subst (IsWithout home.bytes (node_of arrived.0.leaf) key) is (cut (node_of arrived.0.leaf) arrived.0.reads)).0 in
                  let now : t ≡ wrote p home.id text = subst (HasUpdated {A = A} home.id text q t) ok y ∙ ap (λ q. wrote q home.id text) at.0 in
                  let value = subst (λ found. IsValue (seen R p) k.values found (m key)) found (rep.valued key) in (
                    spared-wrote _ _ (inl arrived.1) now,
                    ap is_some (sym value.2),
                    subst (λ t. Represents (seen R t) k (with_at key None m)) (sym now) (gone-is R p k m rep home key arrived.0 arrived.1 spot found text reads),
                    subst (λ t. Represents (seen R (removed t (id_in k.values spot.0 spot.1))) k (with_at key None m)) (sym now) (deleted-is R p k m rep home key arrived.0 arrived.1 spot found text reads),
                  );
            })

        pub take-ends : {B : Type 0} (done : A) → u ≡ Ok done → (d : List Exchange) (id : Rid) → id ≡ id_in k.values spot.0 spot.1 → (e : Result B Refusal) → GoesOn (Deletes id e) c d → s ≡ Ok true → GoesOn (Takes k key s) a d
        take-ends {B = B} done ok d id it e deletes so =
            goes-then (Gone k key spot) (Deleted id e) (Taken k key s) a c d (gone done ok) deletes
            (λ R p q t g y m rep.
            let h = g.holds m rep in
            of R p q t m h e y)
          where
            of : (R : Records) (p q t : Progress) (m : Map)
                → Spares k.root.page.store k.values R p q × (true ≡ is_some (m key)) × Represents (seen R q) k (with_at key None m) × Represents (seen R (removed q (id_in k.values spot.0 spot.1))) k (with_at key None m)
                → (e : Result B Refusal) → HasDeleted id q t e → Spares k.root.page.store k.values R p t × IsTaken (seen R t) k m key s
            of R p q t m h (Ok gone) y =
                let now : t ≡ removed q (id_in k.values spot.0 spot.1) = y ∙ ap (λ id. removed q id) it in
                (spared-then h.0 (spared-removed _ (inr refl) now), subst (IsTaken (seen R t) k m key) (sym so) (h.1, subst (λ t. Represents (seen R t) k (with_at key None m)) (sym now) h.3))
            of R p q t m h (Err f) y =
                (spared-then h.0 (spared-same y.1), subst (IsTaken (seen R t) k m key) (sym so) (h.1, subst (λ t. Represents (seen R t) k (with_at key None m)) (sym y.1) h.2))
