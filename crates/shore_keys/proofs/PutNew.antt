-- A key more: its value is inserted, and then the leaf names it.
use Rattle.std.proofs.Common.{◌≡◌, ◌≢◌, ◌⊎◌, inl, inr, ℕ, List, [], Bool, true, false, cond, Option, Some, None, Result, Ok, Err, refl, sym, ap, subst, ◌∙◌}
use Rattle.std.specs.Prelude.{nat_eq, length}
use Rattle.std.specs.FinMap.{get}
use Rattle.std.specs.Cmp.Lexicographic.{pointwise}
use Rattle.std.proofs.lemmas.Option.{same_Some}
use Rattle.shore_types.specs.declared.ids.Rid.{Rid}
use Rattle.shore_model.specs.declared.calls.Exchange.{Exchange}
use Rattle.shore_model.specs.declared.progress.Progress.{Progress}
use Rattle.shore_model.specs.Records.{Records}
use Rattle.shore_keys.specs.declared.maps.KeyMap.{KeyMap}
use Rattle.shore_keys.specs.declared.refusals.Refusal.{Refusal}
use Rattle.shore_keys.specs.declared.refusals.Refusal.TheVariants.{Damaged}
use Rattle.shore_keys.specs.declared.searching.Home.{Home}
use Rattle.shore_keys.specs.Calls.{HasUpdated, Updates, wrote}
use Rattle.shore_keys.specs.Cuts.{IsWithEntry, place, with_entry}
use Rattle.shore_keys.specs.Exchanges.{AtItsTurn, GoesOn, Spares, seen}
use Rattle.shore_keys.specs.Homes.{IsNewAt, PutsAtHome}
use Rattle.shore_keys.specs.Maps.{IsPut, IsValue, Map, Represents, with_at}
use Rattle.shore_keys.specs.Nodes.{Node, node_at}
use Rattle.shore_keys.specs.Trees.{Index, Indexes, IsHome, Spot, id_in, look_in, node_of}
use Rattle.shore_keys.proofs.Changes.{with-leaf}
use Rattle.shore_keys.proofs.Looks.{at-home, looks-home}
use Rattle.shore_keys.proofs.Places.{looks-placed, rises-from}
use Rattle.shore_keys.proofs.PutSteps.{Placed, PutAtHome, Updated}
use Rattle.shore_keys.proofs.Seen.{absent_apart, seen_here, seen_there}
use Rattle.shore_keys.proofs.SameTexts.{same_texts}
use Rattle.shore_keys.proofs.Spared.{spared-then, spared-wrote}
use Rattle.shore_keys.proofs.Turns.{goes-then}
use Rattle.shore_keys.proofs.Values.{at-key, at-other, more-is, more-kept, other-store, value-kept}

module _ (R : Records) (p : Progress) (k : KeyMap) (m : Map) (rep : Represents (seen R p) k m) (home : Home) (key value : List ℕ) (at : IsNewAt (seen R p) k m rep home key)
    (id : Rid) (none : get (seen R p) id ≡ None) (store : id.page.store ≡ k.values) (text : List ℕ)
    (reads : node_at text ≡ Some (with_entry key (id.page.page, id.slot) (node_of at.at.leaf))) where
  abbrev spot : Spot
  spot = (id.page.page, id.slot)

  abbrev q : Progress
  q = wrote p id value

  abbrev now : Records
  now = seen R (wrote q home.id text)

  abbrev h : Indexes (seen R q) k.root rep.index
  h = more-kept R p k m rep id value none store

  home-apart : home.id ≢ id
  home-apart = absent_apart (seen R p) id home.id home.bytes none at.at.there

  abbrev at-home-now : IsHome (seen R q) rep.indexes.leaves key home.id home.bytes
  at-home-now = record {
    before = at.at.before;
    leaf = at.at.leaf;
    behind = at.at.behind;
    all = at.at.all;
    here = at.at.here;
    low = at.at.low;
    within = at.at.within;
    there = seen_there R p id value home.id home-apart ∙ at.at.there;
    reads = at.at.reads;
  }

  not-there : look_in at.at.leaf.entries key ≡ None
  not-there = looks-home (seen R p) k.root rep.index rep.indexes key home.id home.bytes at.at ∙ at.none

  indexes-now : Indexes now k.root (with_at key (Some spot) rep.index)
  indexes-now =
      with-leaf (seen R q) now k.root rep.index h key home.id home.bytes at-home-now (place key spot at.at.leaf.entries) (Some spot)
      (λ other here apart. seen_there R q home.id text other apart)
      (record { bytes = text; there = seen_here R q home.id text; reads = reads })
      (rises-from key spot at.at.leaf.right at.at.within at.at.leaf.low at.at.leaf.entries at.at.low not-there (at-home (seen R p) k.root rep.index rep.indexes key home.id home.bytes at.at).back.4)
      (looks-placed key spot at.at.leaf.entries not-there)

  it : id_in k.values id.page.page id.slot ≡ id
  it = ap (λ (s : ℕ). id_in s id.page.page id.slot) (sym store)

  value-apart : (s : Spot) → id_in k.values s.0 s.1 ≢ home.id
  value-apart s e = rep.stores (ap (λ (id : Rid). id.page.store) e ∙ at.store)

  value-there : get now id ≡ Some value
  value-there = seen_there R q home.id text id (λ e. home-apart (sym e)) ∙ seen_here R p id value

  others-there : (found : Option Spot) (v : Option (List ℕ)) → IsValue (seen R q) k.values found v → IsValue now k.values found v
  others-there None v was = was
  others-there (Some s) v was = (was.0, seen_there R q home.id text (id_in k.values s.0 s.1) (value-apart s) ∙ was.1, was.2)

  valued-now : (other : List ℕ) (b : Bool) → pointwise nat_eq key other ≡ b → IsValue now k.values (with_at key (Some spot) rep.index other) (with_at key (Some value) m other)
  valued-now other true e =
      subst (λ found. IsValue now k.values found (with_at key (Some value) m other)) (sym (at-key key other (Some spot) rep.index e))
      (value, ap (λ id. get now id) it ∙ value-there, at-key key other (Some value) m e)
  valued-now other false e =
      subst (λ found. IsValue now k.values found (with_at key (Some value) m other)) (sym (at-other key other (Some spot) rep.index e))
      (subst (IsValue now k.values (rep.index other)) (sym (at-other key other (Some value) m e))
      (others-there (rep.index other) (m other) (value-kept R p k m rep id value none store (rep.index other) (m other) (rep.valued other))))

  -- no key had the new place
  was-none : (other : List ℕ) → rep.index other ≡ Some spot → ⊥
  was-none other e =
      let v = subst (λ found. IsValue (seen R p) k.values found (m other)) e (rep.valued other) in
      absent_apart (seen R p) id (id_in k.values id.page.page id.slot) v.0 none v.1 it

  own-now : (a b : List ℕ) (s : Spot) (x y : Bool) → pointwise nat_eq key a ≡ x → pointwise nat_eq key b ≡ y → with_at key (Some spot) rep.index a ≡ Some s → with_at key (Some spot) rep.index b ≡ Some s → a ≡ b
  own-now a b s true true ea eb sa sb = sym (same_texts key a ea) ∙ same_texts key b eb
  own-now a b s true false ea eb sa sb =
      let same : spot ≡ s = same_Some spot s (sym (at-key key a (Some spot) rep.index ea) ∙ sa) in
      absurd (was-none b (sym (at-other key b (Some spot) rep.index eb) ∙ sb ∙ ap (λ (s : Spot). Some s) (sym same)))
  own-now a b s false true ea eb sa sb =
      let same : spot ≡ s = same_Some spot s (sym (at-key key b (Some spot) rep.index eb) ∙ sb) in
      absurd (was-none a (sym (at-other key a (Some spot) rep.index ea) ∙ sa ∙ ap (λ (s : Spot). Some s) (sym same)))
  own-now a b s false false ea eb sa sb =
      rep.own a b s (sym (at-other key a (Some spot) rep.index ea) ∙ sa) (sym (at-other key b (Some spot) rep.index eb) ∙ sb)

  pub new-is : Represents now k (with_at key (Some value) m)
  new-is = record {
    index = with_at key (Some spot) rep.index;
    indexes = indexes-now;
    valued = λ other. valued-now other (pointwise nat_eq key other) refl;
    own = λ a b s sa sb. own-now a b s (pointwise nat_eq key a) (pointwise nat_eq key b) refl refl sa sb;
    stores = rep.stores;
  }

ends : {A : Type 0} (R : Records) (p q t : Progress) (k : KeyMap) (m : Map) (rep : Represents (seen R p) k m) (home : Home) (key value : List ℕ) (at : IsNewAt (seen R p) k m rep home key)
    (id : Rid) (text : List ℕ) → Placed k value id R p q → node_at text ≡ Some (with_entry key (id.page.page, id.slot) (node_of at.at.leaf)) → (s : Result A Refusal) → HasUpdated home.id text q t s
    → Spares k.root.page.store k.values R p t × IsPut (seen R t) k m key (Some value) s
ends R p q t k m rep home key value at id text h reads (Ok done) u =
    let now : t ≡ wrote (wrote p id value) home.id text = u ∙ ap (λ q. wrote q home.id text) h.wrote_it in
    (spared-then (spared-wrote _ _ (inr h.store) refl) (spared-wrote _ _ (inl at.store) now), subst (λ t. Represents (seen R t) k (with_at key (Some value) m)) (sym now) (new-is R p k m rep home key value at id h.none h.store text reads))
ends R p q t k m rep home key value at id text h reads (Err f) u =
    let now : t ≡ wrote p id value = u.1 ∙ h.wrote_it in
    (spared-wrote _ _ (inr h.store) now, (u.0, subst (λ t. Represents (seen R t) k m) (sym now) (more-is R p k m rep id value h.none h.store)))

pub new-ends : {A : Type 0} (k : KeyMap) (home : Home) (key value : List ℕ) (s : Result A Refusal) (a b c : List Exchange) (id : Rid) (text : List ℕ) (w : Result (Option (List ℕ)) Refusal)
    → GoesOn (AtItsTurn (Placed k value id)) a b → ((node : Node) → node_at home.bytes ≡ Some node → IsWithEntry home.bytes node key (id.page.page, id.slot) w) → w ≡ Ok (Some text)
    → GoesOn (Updates home.id text s) b c → GoesOn (PutsAtHome k home key value s) a c
new-ends k home key value s a b c id text w x wrote_so is updates =
    goes-then (Placed k value id) (Updated home.id text s) (PutAtHome k home key value s) a b c x updates
    (λ R p q t h u m rep at.
    let made = subst (IsWithEntry home.bytes (node_of at.at.leaf) key (id.page.page, id.slot)) is (wrote_so (node_of at.at.leaf) at.at.reads) in
    ends R p q t k m rep home key value at id text h made.0 s u)
