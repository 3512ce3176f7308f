-- Entries that rise, cut in two: what each half has.
use Rattle.std.proofs.Common.{◌≡◌, ◌≢◌, ℕ, List, [], ◌∷◌, ◌++◌, Bool, true, false, cond, Option, Some, None, refl, sym, ap, subst, ◌∙◌}
use Rattle.std.specs.Prelude.{nat_eq, not}
use Rattle.std.specs.Cmp.Lexicographic.{pointwise}
use Rattle.shore_keys.specs.Nodes.{Entry}
use Rattle.shore_keys.specs.Orders.{IsUpTo, is_before}
use Rattle.shore_keys.specs.Trees.{EndsFrom, RiseBehind, RiseFrom, Spot, is_past, look_in}
use Rattle.shore_keys.proofs.KeyOrder.{before-trans, before-upto, upto-itself, upto-trans}
use Rattle.shore_keys.proofs.SameTexts.{look-other, same_text}

-- what comes before another is not the same
pub before-apart : (a b : List ℕ) → is_before a b ≡ true → a ≢ b
before-apart a b h e = clash (sym (upto-itself b) ∙ subst (λ (a : List ℕ). is_before a b ≡ true) e h)
  where
    clash : false ≡ true → ⊥
    clash e = cc

module _ (e : Entry) (ys : List Entry) (right : Option Entry) where
  -- each before it is below it
  pub below-it : (a : List ℕ) (xs : List Entry) → RiseBehind a (xs ++ e ∷ ys) right → is_before a e.0 ≡ true
  below-it a [] rise = rise.0
  below-it a (x ∷ xs) rise = before-trans a x.0 e.0 rise.0 (before-upto x.0 e.0 (below-it x.0 xs rise.2))

  module _ (sep : Entry) (same : sep.0 ≡ e.0) where
    not-past : (a : List ℕ) → is_before a e.0 ≡ true → is_past (Some sep) a ≡ false
    not-past a h = ap not (ap (is_before a) same ∙ h)

    front-behind : (a : List ℕ) (xs : List Entry) → RiseBehind a (xs ++ e ∷ ys) right → RiseBehind a xs (Some sep)
    front-behind a [] rise = tt
    front-behind a (x ∷ xs) rise = (rise.0, not-past x.0 (below-it x.0 xs rise.2), front-behind x.0 xs rise.2)

    pub front-from : (low : List ℕ) (xs : List Entry) → RiseFrom low (xs ++ e ∷ ys) right → RiseFrom low xs (Some sep)
    front-from low [] rise = tt
    front-from low (x ∷ xs) rise = (rise.0, not-past x.0 (below-it x.0 xs rise.2), front-behind x.0 xs rise.2)

    pub front-ends : (low : List ℕ) (xs : List Entry) → RiseFrom low (xs ++ e ∷ ys) right → EndsFrom low (Some sep)
    front-ends low [] rise = subst (λ (s : List ℕ). IsUpTo low s) (sym same) rise.0
    front-ends low (x ∷ xs) rise = subst (λ (s : List ℕ). IsUpTo low s) (sym same) (upto-trans low x.0 e.0 rise.0 (before-upto x.0 e.0 (below-it x.0 xs rise.2)))

  back-behind : (a : List ℕ) (xs : List Entry) → RiseBehind a (xs ++ e ∷ ys) right → (is_past right e.0 ≡ false) × RiseBehind e.0 ys right
  back-behind a [] rise = (rise.1, rise.2)
  back-behind a (x ∷ xs) rise = back-behind x.0 xs rise.2

  back-parts : (low : List ℕ) (xs : List Entry) → RiseFrom low (xs ++ e ∷ ys) right → (is_past right e.0 ≡ false) × RiseBehind e.0 ys right
  back-parts low [] rise = (rise.1, rise.2)
  back-parts low (x ∷ xs) rise = back-behind x.0 xs rise.2

  pub back-from : (low : List ℕ) (xs : List Entry) → RiseFrom low (xs ++ e ∷ ys) right → RiseFrom e.0 (e ∷ ys) right
  back-from low xs rise = let b = back-parts low xs rise in (upto-itself e.0, b.0, b.1)

  pub back-ends : (low : List ℕ) (xs : List Entry) → RiseFrom low (xs ++ e ∷ ys) right → EndsFrom e.0 right
  back-ends low xs rise = of right (back-parts low xs rise).0
    where
      of : (right : Option Entry) → is_past right e.0 ≡ false → EndsFrom e.0 right
      of None past = tt
      of (Some r) past = before-upto e.0 r.0 (flipped (is_before e.0 r.0) past)
        where
          flipped : (b : Bool) → not b ≡ false → b ≡ true
          flipped true h = refl
          flipped false h = absurd cc

  -- a key that is not past the end is past the cut, if it is past the end
  none-above : (a k : List ℕ) (es : List Entry) → is_before k a ≡ true → RiseBehind a es right → look_in es k ≡ None
  none-above a k [] h rise = refl
  none-above a k (x ∷ xs) h rise =
      let up : is_before k x.0 ≡ true = before-trans k a x.0 h (before-upto a x.0 rise.0) in
      look-other x xs k (λ same. before-apart k x.0 up (sym same)) ∙ none-above x.0 k xs up rise.2

  module _ (low : List ℕ) (k : List ℕ) where
    pub looks-front : (xs : List Entry) → RiseFrom low (xs ++ e ∷ ys) right → is_before k e.0 ≡ true → look_in (xs ++ e ∷ ys) k ≡ look_in xs k
    looks-front xs rise h = of xs
      where
        later : look_in (e ∷ ys) k ≡ None
        later = look-other e ys k (λ same. before-apart k e.0 h (sym same)) ∙ none-above e.0 k ys h (back-parts low xs rise).1

        of : (zs : List Entry) → look_in (zs ++ e ∷ ys) k ≡ look_in zs k
        of [] = later
        of (z ∷ zs) = ap (λ o. cond (pointwise nat_eq z.0 k) (Some (z.1, z.2)) o) (of zs)

    passed-behind : (a : List ℕ) (xs : List Entry) → RiseBehind a (xs ++ e ∷ ys) right → IsUpTo e.0 k → look_in (xs ++ e ∷ ys) k ≡ look_in (e ∷ ys) k
    passed-behind a [] rise up = refl
    passed-behind a (x ∷ xs) rise up = look-other x (xs ++ e ∷ ys) k (before-apart x.0 k (before-trans x.0 e.0 k (below-it x.0 xs rise.2) up)) ∙ passed-behind x.0 xs rise.2 up

    pub looks-back : (xs : List Entry) → RiseFrom low (xs ++ e ∷ ys) right → IsUpTo e.0 k → look_in (xs ++ e ∷ ys) k ≡ look_in (e ∷ ys) k
    looks-back [] rise up = refl
    looks-back (x ∷ xs) rise up = look-other x (xs ++ e ∷ ys) k (before-apart x.0 k (before-trans x.0 e.0 k (below-it x.0 xs rise.2) up)) ∙ passed-behind x.0 xs rise.2 up
