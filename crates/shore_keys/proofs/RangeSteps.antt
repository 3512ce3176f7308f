-- The steps of a range.
use Rattle.std.proofs.Common.{◌≡◌, ◌≢◌, ◌⊎◌, inl, inr, ℕ, List, [], ◌∷◌, ◌++◌, length, Bool, true, false, Option, Some, None, Result, Ok, Err, refl, sym, ap, subst, ◌∙◌}
use Rattle.std.proofs.lemmas.List.{append-nil}
use Rattle.shore_model.specs.declared.calls.Exchange.{Exchange}
use Rattle.shore_model.specs.declared.progress.Progress.{Progress}
use Rattle.shore_model.specs.Records.{Records}
use Rattle.shore_keys.specs.declared.maps.KeyMap.{KeyMap}
use Rattle.shore_keys.specs.declared.refusals.Refusal.{Refusal}
use Rattle.shore_keys.specs.declared.refusals.Refusal.TheVariants.{Damaged}
use Rattle.shore_keys.specs.Exchanges.{AtItsTurn, GoesOn, seen}
use Rattle.shore_keys.specs.Maps.{IsNextKey, Map, Nexts, Represents}
use Rattle.shore_keys.specs.Orders.{IsUpTo, is_before}
use Rattle.shore_keys.specs.Ranges.{AllBefore, AreNext, Gathers, IsRange, Items, NoneBetween, Ranges, last_key}
use Rattle.shore_keys.proofs.KeyOrder.{before-trans}
use Rattle.shore_keys.proofs.Turns.{goes-as, goes-then}

next-more : (m : Map) (key : List ℕ) (items : Items) (x : List ℕ × List ℕ) → AreNext m key items → IsNextKey m (last_key key items) (Ok (Some x)) → AreNext m key (items ++ x ∷ [])
next-more m key [] x are next = (next.0, next.1, next.2, tt)
next-more m key (y ∷ ys) x are next = (are.0, are.1, are.2, next-more m y.0 ys x are.3 next)

before-more : (high : List ℕ) (items : Items) (x : List ℕ × List ℕ) → AllBefore high items → is_before x.0 high ≡ true → AllBefore high (items ++ x ∷ [])
before-more high [] x all low = (low, tt)
before-more high (y ∷ ys) x all low = (all.0, before-more high ys x all.1 low)

pub last-more : (key : List ℕ) (items : Items) (x : List ℕ × List ℕ) → last_key key (items ++ x ∷ []) ≡ x.0
last-more key [] x = refl
last-more key (y ∷ ys) x = last-more y.0 ys x

abbrev Gathering : KeyMap → List ℕ → List ℕ → Items → Records → Progress → Progress → Type 0
Gathering k above below items R p q = (m : Map) → Represents (seen R p) k m → (q ≡ p) × AreNext m above items × AllBefore below items

abbrev Next : KeyMap → List ℕ → Result (Option (List ℕ × List ℕ)) Refusal → Records → Progress → Progress → Type 0
Next k key n R p q = (m : Map) → Represents (seen R p) k m → (q ≡ p) × IsNextKey m key n

abbrev Ranged : KeyMap → List ℕ → List ℕ → ℕ → Result Items Refusal → Records → Progress → Progress → Type 0
Ranged k above below most s R p q = (m : Map) → Represents (seen R p) k m → (q ≡ p) × IsRange m above below most s

pub range-starts : (k : KeyMap) (above below : List ℕ) (a : List Exchange) → GoesOn (Gathers k above below []) a a
range-starts k above below a = record { made = []; on = sym (append-nil a); holds = λ most R p may m rep. (refl, tt, tt) }

module _ (k : KeyMap) (above below : List ℕ) (most : ℕ) (s : Result Items Refusal) where
  pub range-none : (a : List Exchange) (f : Refusal) → s ≡ Err f → f ≢ Damaged → GoesOn (Ranges k above below most s) a a
  range-none a f so other = record { made = []; on = sym (append-nil a); holds = λ slots R p may m rep. (refl, subst (IsRange m above below most) (sym so) other) }

  module _ (items : Items) (a b : List Exchange) (x : GoesOn (Gathers k above below items) a b) where
    pub range-stops : (f : Refusal) → s ≡ Err f → f ≢ Damaged → GoesOn (Ranges k above below most s) a b
    range-stops f so other =
        goes-as (Gathering k above below items) (Ranged k above below most s) a b x (λ R p q h m rep. ((h m rep).0, subst (IsRange m above below most) (sym so) other))

    pub range-full : length items ≡ most → s ≡ Ok items → GoesOn (Ranges k above below most s) a b
    range-full full so =
        goes-as (Gathering k above below items) (Ranged k above below most s) a b x
        (λ R p q h m rep. let now = h m rep in (now.0, subst (IsRange m above below most) (sym so) (now.1, now.2, inl full)))

    module _ (at : List ℕ) (last : at ≡ last_key above items) (c : List Exchange) (n : Result (Option (List ℕ × List ℕ)) Refusal) (y : GoesOn (Nexts k at n) b c) where
      -- what was found, and what comes next
      both : (R : Records) (p q t : Progress) (m : Map) → Represents (seen R p) k m → Gathering k above below items R p q → Next k at n R q t
          → (t ≡ p) × AreNext m above items × AllBefore below items × IsNextKey m (last_key above items) n
      both R p q t m rep h z =
          let was = h m rep in
          let now = z m (subst (λ q. Represents (seen R q) k m) (sym was.0) rep) in
          (now.0 ∙ was.0, was.1, was.2, subst (λ key. IsNextKey m key n) last now.1)

      pub range-stops-next : (f : Refusal) → n ≡ Err f → s ≡ Err f → GoesOn (Ranges k above below most s) a c
      range-stops-next f is so =
          goes-then (Gathering k above below items) (Next k at n) (Ranged k above below most s) a b c x y
          (λ R p q t h z m rep. let all = both R p q t m rep h z in (all.0, subst (IsRange m above below most) (sym so) (subst (IsNextKey m (last_key above items)) is all.3)))

      pub range-stops-behind : (f : Refusal) → s ≡ Err f → f ≢ Damaged → GoesOn (Ranges k above below most s) a c
      range-stops-behind f so other =
          goes-then (Gathering k above below items) (Next k at n) (Ranged k above below most s) a b c x y
          (λ R p q t h z m rep. ((both R p q t m rep h z).0, subst (IsRange m above below most) (sym so) other))

      pub range-ends : n ≡ Ok None → s ≡ Ok items → GoesOn (Ranges k above below most s) a c
      range-ends is so =
          goes-then (Gathering k above below items) (Next k at n) (Ranged k above below most s) a b c x y
          (λ R p q t h z m rep.
          let all = both R p q t m rep h z in
          let none = subst (IsNextKey m (last_key above items)) is all.3 in
          (all.0, subst (IsRange m above below most) (sym so) (all.1, all.2, inr (λ other low high. none other low))))

      module _ (found : List ℕ × List ℕ) (is : n ≡ Ok (Some found)) where
        pub range-ends-below : is_before found.0 below ≡ false → s ≡ Ok items → GoesOn (Ranges k above below most s) a c
        range-ends-below past so =
            goes-then (Gathering k above below items) (Next k at n) (Ranged k above below most s) a b c x y
            (λ R p q t h z m rep.
            let all = both R p q t m rep h z in
            let next = subst (IsNextKey m (last_key above items)) is all.3 in
            (all.0, subst (IsRange m above below most) (sym so) (all.1, all.2, inr (λ other low high. next.2 other low (before-trans other below found.0 high past)))))

        pub range-goes : is_before found.0 below ≡ true → GoesOn (Gathers k above below (items ++ found ∷ [])) a c
        range-goes low =
            goes-then (Gathering k above below items) (Next k at n) (Gathering k above below (items ++ found ∷ [])) a b c x y
            (λ R p q t h z m rep.
            let all = both R p q t m rep h z in
            let next = subst (IsNextKey m (last_key above items)) is all.3 in
            (all.0, next-more m above items found all.1 next, before-more below items found all.2 low))
