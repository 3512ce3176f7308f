-- What a map is behind one change of a value, or of a leaf.
use Rattle.std.proofs.Common.{◌≡◌, ◌≢◌, ◌⊎◌, inl, inr, ℕ, List, Bool, true, false, cond, Option, Some, None, refl, sym, subst, ap, ◌∙◌}
use Rattle.std.specs.Prelude.{nat_eq}
use Rattle.std.specs.FinMap.{get}
use Rattle.std.specs.Cmp.Lexicographic.{pointwise}
use Rattle.std.proofs.lemmas.Option.{same_Some}
use Rattle.shore_types.specs.declared.ids.Rid.{Rid}
use Rattle.shore_model.specs.declared.progress.Progress.{Progress}
use Rattle.shore_model.specs.Records.{Records}
use Rattle.shore_keys.specs.declared.maps.KeyMap.{KeyMap}
use Rattle.shore_keys.specs.Calls.{removed, wrote}
use Rattle.shore_keys.specs.Exchanges.{seen}
use Rattle.shore_keys.specs.Maps.{IsValue, Map, Represents, with_at}
use Rattle.shore_keys.specs.Nodes.{Entry, Node, node_at}
use Rattle.shore_keys.specs.Trees.{Index, Indexes, IsHome, Leaf, ReadsNode, RiseFrom, Spot, id_in, look_in, node_of}
use Rattle.shore_keys.proofs.Changes.{NoInner, SameBut, kept-tree, with-leaf}
use Rattle.shore_keys.proofs.Seen.{absent_apart, seen_here, seen_there}
use Rattle.shore_keys.proofs.SameTexts.{same_text, same_texts}

spot_of : Rid → Spot
spot_of id = (id.page.page, id.slot)

pub same-spot : (store : ℕ) (a b : Spot) → id_in store a.0 a.1 ≡ id_in store b.0 b.1 → a ≡ b
unfolding spot_of
same-spot store a b e = ap spot_of e

pub other-store : (a b : ℕ) (q id : Rid) → a ≢ b → q.page.store ≡ b → id.page.store ≡ a → q ≢ id
other-store a b q id apart here there e = apart (sym there ∙ sym (ap (λ (id : Rid). id.page.store) e) ∙ here)

pub at-key : {A : Type 0} (key k : List ℕ) (found : Option A) (m : List ℕ → Option A) → pointwise nat_eq key k ≡ true → with_at key found m k ≡ found
at-key key k found m e = ap (λ b. cond b found (m k)) e

pub at-other : {A : Type 0} (key k : List ℕ) (found : Option A) (m : List ℕ → Option A) → pointwise nat_eq key k ≡ false → with_at key found m k ≡ m k
at-other key k found m e = ap (λ b. cond b found (m k)) e

-- a value is another one
module _ (R : Records) (p : Progress) (k : KeyMap) (m : Map) (rep : Represents (seen R p) k m) (key value : List ℕ) (spot : Spot) (here : rep.index key ≡ Some spot) where
  abbrev id : Rid
  id = id_in k.values spot.0 spot.1

  abbrev now : Records
  now = seen R (wrote p id value)

  values-other : (other : List ℕ) (found : Option Spot) → rep.index other ≡ found → IsValue (seen R p) k.values found (m other) → (b : Bool) → pointwise nat_eq key other ≡ b
      → IsValue now k.values found (with_at key (Some value) m other)
  values-other other None is was true e =
      absurd (clash (sym here ∙ ap rep.index (same_texts key other e) ∙ is))
    where
      clash : Some spot ≡ None → ⊥
      clash e = cc
  values-other other (Some s) is was true e =
      let same : spot ≡ s = same_Some spot s (sym here ∙ ap rep.index (same_texts key other e) ∙ is) in
      (value, ap (λ (s : Spot). get now (id_in k.values s.0 s.1)) (sym same) ∙ seen_here R p id value, at-key key other (Some value) m e)
  values-other other None is was false e = at-other key other (Some value) m e ∙ was
  values-other other (Some s) is was false e =
      let apart : id_in k.values s.0 s.1 ≢ id = λ q. clash (rep.own key other s (here ∙ ap (λ (s : Spot). Some s) (sym (same-spot k.values s spot q))) is) in
      (was.0, seen_there R p id value (id_in k.values s.0 s.1) apart ∙ was.1, at-other key other (Some value) m e ∙ was.2)
    where
      clash : key ≡ other → ⊥
      clash q = of (sym (ap (λ (o : List ℕ). pointwise nat_eq key o) q) ∙ same_text key)
        where
          of : pointwise nat_eq key other ≡ true → ⊥
          of t = absurd cc

  pub value-is : Represents now k (with_at key (Some value) m)
  value-is = record {
    index = rep.index;
    indexes = kept-tree (seen R p) now k.root rep.index id (λ q store apart. seen_there R p id value q apart)
        (λ q n store reads. other-store k.values k.root.page.store q id rep.stores store refl) (λ node store reads level. rep.stores store) rep.indexes;
    valued = λ other. values-other other (rep.index other) refl (rep.valued other) (pointwise nat_eq key other) refl;
    own = rep.own;
    stores = rep.stores;
  }

-- one record more, where none was, of the store of values
module _ (R : Records) (p : Progress) (k : KeyMap) (m : Map) (rep : Represents (seen R p) k m) (id : Rid) (value : List ℕ) (none : get (seen R p) id ≡ None) (store : id.page.store ≡ k.values) where
  abbrev with-more : Records
  with-more = seen R (wrote p id value)

  pub value-kept : (found : Option Spot) (v : Option (List ℕ)) → IsValue (seen R p) k.values found v → IsValue with-more k.values found v
  value-kept None v was = was
  value-kept (Some s) v was =
      (was.0, seen_there R p id value (id_in k.values s.0 s.1) (absent_apart (seen R p) id (id_in k.values s.0 s.1) was.0 none was.1) ∙ was.1, was.2)

  abbrev pub more-kept : Indexes with-more k.root rep.index
  more-kept =
      kept-tree (seen R p) with-more k.root rep.index id (λ q here apart. seen_there R p id value q apart)
      (λ q n here reads. other-store k.values k.root.page.store q id rep.stores here store) (λ node here reads level. rep.stores (sym store ∙ here)) rep.indexes

  pub more-is : Represents with-more k m
  more-is = record {
    index = rep.index;
    indexes = more-kept;
    valued = λ other. value-kept (rep.index other) (m other) (rep.valued other);
    own = rep.own;
    stores = rep.stores;
  }
