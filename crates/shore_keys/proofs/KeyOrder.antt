-- The order of keys.
use Rattle.std.proofs.Common.{◌≡◌, ℕ, List, [], ◌∷◌, Bool, true, false, refl, sym, ap, subst, ◌∙◌}
use Rattle.std.specs.Ordering.{is_gt, is_lt, nat_cmp, ordering_reverse}
use Rattle.std.specs.declared.cmp.Ordering.{Ordering}
use Rattle.std.specs.declared.cmp.Ordering.TheVariants.{Less, Equal, Greater}
use Rattle.std.specs.Cmp.Lexicographic.{slice_cmp}
use Rattle.std.proofs.lemmas.Cmp.{nat_list_cmp_total, tied_itself, upto}
use Rattle.shore_keys.specs.Orders.{IsUpTo, is_before}

reversed : (o : Ordering) → is_lt (ordering_reverse o) ≡ is_gt o
reversed Less = refl
reversed Equal = refl
reversed Greater = refl

pub other_way : (a b : List ℕ) → is_lt (slice_cmp nat_cmp b a) ≡ is_gt (slice_cmp nat_cmp a b)
other_way a b = ap is_lt (nat_list_cmp_total.antisymm b a) ∙ reversed (slice_cmp nat_cmp a b)

pub upto-trans : (a b c : List ℕ) → IsUpTo a b → IsUpTo b c → IsUpTo a c
unfolding is_before
upto-trans a b c h k = other_way a c ∙ upto nat_list_cmp_total a b c (sym (other_way a b) ∙ h) (sym (other_way b c) ∙ k)

pub upto-itself : (a : List ℕ) → IsUpTo a a
unfolding is_before
upto-itself a = ap is_lt (tied_itself nat_list_cmp_total a)

-- nothing comes before the empty key
pub upto-from_empty : (a : List ℕ) → IsUpTo [] a
unfolding is_before
upto-from_empty [] = refl
upto-from_empty (x ∷ xs) = refl

not_both : (o : Ordering) → is_lt o ≡ true → is_gt o ≡ false
not_both Less e = refl
not_both Equal e = absurd cc
not_both Greater e = absurd cc

-- what comes before is not above
pub before-upto : (a b : List ℕ) → is_before a b ≡ true → IsUpTo a b
unfolding is_before
before-upto a b e = other_way a b ∙ not_both (slice_cmp nat_cmp a b) e

-- what comes before the one comes before what is not below it
pub before-trans : (a b c : List ℕ) → is_before a b ≡ true → IsUpTo b c → is_before a c ≡ true
unfolding is_before
before-trans a b c h k = of (is_before a c) refl
  where
    of : (t : Bool) → is_before a c ≡ t → is_before a c ≡ true
    of true e = e
    of false e = absurd (let low : IsUpTo b a = upto-trans b c a k e in cc (h, low))
