-- A key more in its place among entries that rise.
use Rattle.std.proofs.Common.{◌≡◌, ◌≢◌, ℕ, List, [], ◌∷◌, Bool, true, false, cond, Option, Some, None, refl, sym, ap, subst, ◌∙◌}
use Rattle.std.specs.Prelude.{nat_eq}
use Rattle.std.specs.Ordering.{is_eq, is_gt, is_lt, nat_cmp}
use Rattle.std.specs.Cmp.Lexicographic.{pointwise, slice_cmp, texts_ties}
use Rattle.std.specs.declared.cmp.Ordering.{Ordering}
use Rattle.std.specs.declared.cmp.Ordering.TheVariants.{Less, Equal, Greater}
use Rattle.shore_keys.specs.Cuts.{place}
use Rattle.shore_keys.specs.Maps.{with_at}
use Rattle.shore_keys.specs.Nodes.{Entry}
use Rattle.shore_keys.specs.Orders.{IsUpTo, is_before}
use Rattle.shore_keys.specs.Trees.{RiseBehind, RiseFrom, Spot, is_past, look_in}
use Rattle.shore_keys.proofs.KeyOrder.{other_way}
use Rattle.shore_keys.proofs.SameTexts.{other_texts, same_texts}

some_none : {A : Type 0} (x : A) → Some x ≡ None → ⊥
some_none x e = cc

-- the key is not among the entries behind the first either
none-later : (e : Entry) (es : List Entry) (key : List ℕ) → look_in (e ∷ es) key ≡ None → (pointwise nat_eq e.0 key ≡ false) × (look_in es key ≡ None)
none-later e es key none = of (pointwise nat_eq e.0 key) refl
  where
    of : (b : Bool) → pointwise nat_eq e.0 key ≡ b → (pointwise nat_eq e.0 key ≡ false) × (look_in es key ≡ None)
    of true it = absurd (some_none (e.1, e.2) (sym (ap (λ b. cond b (Some (e.1, e.2)) (look_in es key)) it) ∙ none))
    of false it = (it, sym (ap (λ b. cond b (Some (e.1, e.2)) (look_in es key)) it) ∙ none)

-- with a key more that was not there, each other has what it had
pub looks-placed : (key : List ℕ) (spot : Spot) (es : List Entry) → look_in es key ≡ None → (k : List ℕ) → look_in (place key spot es) k ≡ with_at key (Some spot) (look_in es) k
looks-placed key spot [] none k = refl
looks-placed key spot (e ∷ es) none k = of (is_before key e.0) refl (looks-placed key spot es (none-later e es key none).1 k)
  where
    swap : (a b : Bool) → (a ≡ true → b ≡ true → ⊥) → (o : Option Spot) → cond a (Some (e.1, e.2)) (cond b (Some spot) o) ≡ cond b (Some spot) (cond a (Some (e.1, e.2)) o)
    swap true true clash o = absurd (clash refl refl)
    swap true false clash o = refl
    swap false true clash o = refl
    swap false false clash o = refl

    apart : pointwise nat_eq e.0 k ≡ true → pointwise nat_eq key k ≡ true → ⊥
    apart a b = clash (subst (λ (k : List ℕ). pointwise nat_eq e.0 k ≡ true) (sym (same_texts key k b)) a)
      where
        clash : pointwise nat_eq e.0 key ≡ true → ⊥
        clash is = absurd (let other = (none-later e es key none).0 in cc)

    of : (b : Bool) → is_before key e.0 ≡ b → look_in (place key spot es) k ≡ with_at key (Some spot) (look_in es) k → look_in (place key spot (e ∷ es)) k ≡ with_at key (Some spot) (look_in (e ∷ es)) k
    of true above later = ap (λ b. look_in (cond b ((key, spot.0, spot.1) ∷ e ∷ es) (e ∷ place key spot es)) k) above
    of false low later =
        ap (λ b. look_in (cond b ((key, spot.0, spot.1) ∷ e ∷ es) (e ∷ place key spot es)) k) low
        ∙ ap (λ o. cond (pointwise nat_eq e.0 k) (Some (e.1, e.2)) o) later
        ∙ swap (pointwise nat_eq e.0 k) (pointwise nat_eq key k) apart (look_in es k)

-- two keys that are not the same, and not in this order, are in the other one
pub strictly : (a b : List ℕ) → IsUpTo a b → pointwise nat_eq a b ≡ false → is_before a b ≡ true
unfolding is_before
strictly a b low apart = of (slice_cmp nat_cmp a b) (sym (other_way a b) ∙ low) (sym (texts_ties a b) ∙ apart)
  where
    of : (o : Ordering) → is_gt o ≡ false → is_eq o ≡ false → is_lt o ≡ true
    of Less up other = refl
    of Equal up other = absurd cc
    of Greater up other = absurd cc

module _ (key : List ℕ) (spot : Spot) (right : Option Entry) (within : is_past right key ≡ false) where
  rises-behind : (a : List ℕ) (es : List Entry) → is_before a key ≡ true → look_in es key ≡ None → RiseBehind a es right → RiseBehind a (place key spot es) right
  rises-behind a [] low none rise = (low, within, tt)
  rises-behind a (e ∷ es) low none rise =
      of (is_before key e.0) refl (λ below. rises-behind e.0 es below (none-later e es key none).1 rise.2)
    where
      of : (b : Bool) → is_before key e.0 ≡ b → (is_before e.0 key ≡ true → RiseBehind e.0 (place key spot es) right) → RiseBehind a (place key spot (e ∷ es)) right
      of true above later = subst (λ b. RiseBehind a (cond b ((key, spot.0, spot.1) ∷ e ∷ es) (e ∷ place key spot es)) right) (sym above) (low, within, (above, rise.1, rise.2))
      of false below later =
          subst (λ b. RiseBehind a (cond b ((key, spot.0, spot.1) ∷ e ∷ es) (e ∷ place key spot es)) right) (sym below)
          (rise.0, rise.1, later (strictly e.0 key below (none-later e es key none).0))

  pub rises-from : (low : List ℕ) (es : List Entry) → IsUpTo low key → look_in es key ≡ None → RiseFrom low es right → RiseFrom low (place key spot es) right
  rises-from low [] up none rise = (up, within, tt)
  rises-from low (e ∷ es) up none rise = of (is_before key e.0) refl
    where
      of : (b : Bool) → is_before key e.0 ≡ b → RiseFrom low (place key spot (e ∷ es)) right
      of true above = subst (λ b. RiseFrom low (cond b ((key, spot.0, spot.1) ∷ e ∷ es) (e ∷ place key spot es)) right) (sym above) (up, within, (above, rise.1, rise.2))
      of false below =
          subst (λ b. RiseFrom low (cond b ((key, spot.0, spot.1) ∷ e ∷ es) (e ∷ place key spot es)) right) (sym below)
          (rise.0, rise.1, rises-behind e.0 es (strictly e.0 key below (none-later e es key none).0) (none-later e es key none).1 rise.2)
