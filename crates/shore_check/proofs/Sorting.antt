-- A list that was sorted by a key that comes once in it rises.
use Rattle.std.proofs.Common.{◌≡◌, ◌<◌, ◌+◌, ℕ, List, [], ◌∷◌, true, false, get_or, map, length, refl, sym, ap, subst, ◌∙◌, arith}
use Rattle.std.specs.Prelude.{All, IsTrue, ◌&&◌}
use Rattle.std.specs.Cmp.{IsTotalOrder, eq_by_cmp_equiv, ranks}
use Rattle.std.specs.List.{AllByRecursion, IsDistinct}
use Rattle.std.specs.List.Sorted.{IsPermutation, IsSortedByKey, IsStrictlySortedBy}
use Rattle.std.specs.Ordering.{MatchOrdering, eq_by_cmp, is_eq, is_lt, nat_cmp, ordering_reverse}
use Rattle.std.specs.declared.cmp.Ordering.{Ordering}
use Rattle.std.specs.declared.cmp.Ordering.TheVariants.{Less, Equal, Greater}
use Rattle.std.proofs.lemmas.Bool.{lt-ltb}
use Rattle.std.proofs.lemmas.Cmp.{nat_cmp_total, on_total}
use Rattle.std.proofs.lemmas.List.{get_or-map, length-map}
use Rattle.std.proofs.lemmas.List.Elements.{recursion_from_All}
use Rattle.std.proofs.lemmas.List.Sorted.{All-permutation, IsPermutation-map}
use Rattle.std.proofs.lemmas.Map.Keys.{IsDistinct-IsPermutation, apart_from_distinct, sorted_from_all_adjacent}
use Rattle.shore_model.specs.declared.log_records.LogTxn.{LogTxn}
use Rattle.shore_model.specs.Logs.{rise_above}

clash : true ≡ false → ⊥
clash e = cc

turned : (a b : Ordering) → b ≡ ordering_reverse a → is_lt a ≡ false → is_eq b ≡ false → b ≡ Less
turned Less b e low apart = absurd (clash low)
turned Equal b e low apart = absurd (clash (sym (ap is_eq e) ∙ apart))
turned Greater b e low apart = e

module _ {X K : Type 0} {R : K → K → Ordering} (o : IsTotalOrder R) (key : X → K) where
  below : (x y : K) → is_lt (R y x) ≡ false → eq_by_cmp R x y ≡ false → R x y ≡ Less
  below x y low apart = turned (R y x) (R x y) (o.antisymm x y) low apart

  apart_at : (xs : List X) (k : ℕ) (d : X) → k + 1 < length xs → IsDistinct (eq_by_cmp R) (map key xs) → eq_by_cmp R (key (get_or xs k d)) (key (get_or xs (k + 1) d)) ≡ false
  apart_at xs k d within once =
      let is : length (map key xs) ≡ length xs = length-map xs key in
      let at : get_or (map key xs) k (key d) ≡ key (get_or xs k d) = get_or-map key xs k d (key d) (omega arith) in
      let next : get_or (map key xs) (k + 1) (key d) ≡ key (get_or xs (k + 1) d) = get_or-map key xs (k + 1) d (key d) within in
      ap (λ (x : K). eq_by_cmp R x (key (get_or xs (k + 1) d))) (sym at) ∙ ap (λ (y : K). eq_by_cmp R (get_or (map key xs) k (key d)) y) (sym next)
      ∙ apart_from_distinct (eq_by_cmp R) (map key xs) k (k + 1) (key d) once (omega arith) (omega arith)

  -- no key comes twice, and they do not fall: they rise
  strictly : (xs : List X) → IsSortedByKey key R xs → IsDistinct (eq_by_cmp R) (map key xs) → IsStrictlySortedBy (λ x y. R (key x) (key y)) xs
  unfolding IsStrictlySortedBy
  strictly [] sorted once = tt
  strictly (x ∷ xs) sorted once =
      sorted_from_all_adjacent (on_total key o) (x ∷ xs) x
      (λ k within. below (key (get_or (x ∷ xs) k x)) (key (get_or (x ∷ xs) (k + 1) x)) (sorted k x (omega arith) within) (apart_at (x ∷ xs) k x within once))

  pub rises : (xs ys : List X) → IsPermutation xs ys → IsSortedByKey key R ys → IsDistinct (eq_by_cmp R) (map key xs) → IsStrictlySortedBy (λ x y. R (key x) (key y)) ys
  rises xs ys moved sorted once =
      strictly ys sorted (IsDistinct-IsPermutation (eq_by_cmp R) (eq_by_cmp_equiv o).symm (map key xs) (map key ys) (IsPermutation-map key xs ys moved) once)

-- ---- transactions

number_below : (x y : ℕ) → nat_cmp x y ≡ Less → x < y
number_below x y h = subst (λ r. MatchOrdering r (x < y) (x ≡ y) (y < x)) h (ranks x y)

all_above : (t : ℕ) (es : List LogTxn) → AllByRecursion (λ y. nat_cmp t y.txn ≡ Less) es → AllByRecursion (λ y. t < y.txn) es
all_above t [] above = tt
all_above t (e ∷ es) above = (number_below t e.txn above.0, all_above t es above.1)

rise_from : (t : ℕ) (es : List LogTxn) → AllByRecursion (λ y. t < y.txn) es → IsStrictlySortedBy (λ x y. nat_cmp x.txn y.txn) es → IsTrue (rise_above t es)
unfolding IsStrictlySortedBy
rise_from t [] above up = refl
rise_from t (e ∷ es) above up = ap (λ b. b && rise_above e.txn es) (lt-ltb t e.txn above.0) ∙ rise_from e.txn es (all_above e.txn es up.0) up.1

pub txns_rise : (xs ys : List LogTxn) → IsPermutation xs ys → IsSortedByKey (λ (e : LogTxn). e.txn) nat_cmp ys → IsDistinct (eq_by_cmp nat_cmp) (map (λ (e : LogTxn). e.txn) xs)
    → All (λ e. 0 < e.txn) xs → IsTrue (rise_above 0 ys)
txns_rise xs ys moved sorted once some =
    rise_from 0 ys (recursion_from_All (λ e. 0 < e.txn) ys (All-permutation (λ e. 0 < e.txn) xs ys moved some)) (rises nat_cmp_total (λ (e : LogTxn). e.txn) xs ys moved sorted once)
