-- The granules that a transaction holds in EX: which they are, that each comes once, and that a rising list of them is one list.
use Rattle.std.proofs.Common.{◌≡◌, inl, inr, ⊎_elim, ℕ, List, [], ◌∷◌, true, false, Option, None, Some, refl, ap, sym, subst, ◌∙◌, map, length, get_or, ◌≤◌, ◌+◌, arith}
use Rattle.std.specs.Prelude.{Contains, filter, ◌==◌, ◌&&◌, ◌↔◌}
use Rattle.std.specs.declared.cmp.Ordering.{Ordering}
use Rattle.std.specs.declared.cmp.Ordering.TheVariants.{Less, Equal, Greater}
use Rattle.std.specs.Cmp.{IsTotalOrder, eq_by_cmp_equiv}
use Rattle.std.specs.List.{AllByRecursion, IsDistinct}
use Rattle.std.specs.List.Sorted.{IsPermutation, IsSorted, IsStrictlySortedBy}
use Rattle.std.specs.Ordering.{eq_by_cmp, is_eq, is_lt, ordering_reverse}
use Rattle.std.proofs.lemmas.Bool.Decides.{Decides-eqb}
use Rattle.std.proofs.lemmas.List.Elements.{All-from_recursion, recursion_from_All}
use Rattle.std.proofs.lemmas.List.{length-map}
use Rattle.std.proofs.lemmas.List.Sorted.{Contains-permutation, IsPermutation-sym, length_permutation}
use Rattle.std.proofs.lemmas.Map.Keys.{IsDistinct-IsPermutation, apart_from_distinct, sorted_from_all_adjacent}
use Rattle.shore_types.specs.Locking.{exact_granules, granule_cmp, granules_total, same_granule}
use Rattle.shore_types.specs.declared.locking.Granule.{Granule}
use Rattle.shore_types.specs.declared.locking.Mode.{Mode}
use Rattle.shore_types.specs.declared.locking.Mode.TheVariants.{EX}
use Rattle.shore_model.specs.declared.requests.Request.{Request}
use Rattle.shore_model.specs.Modes.{is_write}
use Rattle.shore_model.specs.Requests.{AreRequests, are_alike, requests_by}
use Rattle.shore_nodes.specs.Tables.{is_for, mode_held, request_for}
use Rattle.shore_nodes.proofs.Counts.{length-filter_most}
use Rattle.shore_nodes.proofs.Entering.{both_true, found_in, held_in, request_in}
use Rattle.shore_nodes.proofs.Keys.{alike-Decides, same_granule-Decides}
use Rattle.shore_nodes.proofs.Members.{Contains-In, In, In-All, In-Contains, In-filter, All-In, either, filter-In, filter-no, filter-yes}
use Rattle.shore_locks.specs.Listing.{granules_in_ex, holds_ex, is_ex}

-- ---- granules in their order

equal_of : (o : Ordering) → is_eq o ≡ true → o ≡ Equal
equal_of Less e = cc
equal_of Equal e = refl
equal_of Greater e = cc

pub same_by_order : (x y : Granule) → eq_by_cmp granule_cmp x y ≡ true → x ≡ y
same_by_order x y e = exact_granules x y (equal_of (granule_cmp x y) e)

apart_by_order : (x y : Granule) → (x ≡ y → ⊥) → eq_by_cmp granule_cmp x y ≡ false
apart_by_order x y other =
    ⊎_elim (λ same. absurd (other (same_by_order x y same))) (λ no. no) (either (eq_by_cmp granule_cmp x y))

-- ---- lists that rise

module _ {K : Type 0} {R : K → K → Ordering} (o : IsTotalOrder R) where
  itself : (x : K) → R x x ≡ Less → ⊥
  itself x less =
      let turned : R x x ≡ ordering_reverse Less = o.antisymm x x ∙ ap ordering_reverse less in
      let clash : Less ≡ Greater = sym less ∙ turned in
      cc

  both_below : (x y : K) → R x y ≡ Less → R y x ≡ Less → ⊥
  both_below x y a b = itself x (o.trans x y x a b)

  -- an element of the first that is the second's head is no other's
  in_rest : (x : K) (xs ys : List K) → AllByRecursion (λ y. R x y ≡ Less) xs → ((k : K) → In k (x ∷ xs) → In k (x ∷ ys)) → (k : K) → In k xs → In k ys
  in_rest x xs ys above into k h =
      ⊎_elim
      (λ same. absurd (itself x (subst (λ y. R x y ≡ Less) (sym same) (In-All (λ y. R x y ≡ Less) xs k (All-from_recursion (λ y. R x y ≡ Less) xs above) h))))
      (λ later. later)
      (into k (inr h))

  -- two rising lists with the same members are one
  pub one_rising_list : (xs ys : List K) → IsStrictlySortedBy R xs → IsStrictlySortedBy R ys → ((k : K) → In k xs → In k ys) → ((k : K) → In k ys → In k xs) → xs ≡ ys
  unfolding IsStrictlySortedBy
  one_rising_list [] [] up up' into from = refl
  one_rising_list [] (y ∷ ys) up up' into from = absurd (from y (inl refl))
  one_rising_list (x ∷ xs) [] up up' into from = absurd (into x (inl refl))
  one_rising_list (x ∷ xs) (y ∷ ys) up up' into from =
      let same : x ≡ y = ⊎_elim (λ e. sym e) (λ later. ⊎_elim (λ e. e) (λ later'. absurd (both_below x y (In-All (λ z. R x z ≡ Less) xs y (All-from_recursion (λ z. R x z ≡ Less) xs up.0) later')
      (In-All (λ z. R y z ≡ Less) ys x (All-from_recursion (λ z. R y z ≡ Less) ys up'.0) later))) (from y (inl refl))) (into x (inl refl)) in
      let into' : (k : K) → In k (x ∷ xs) → In k (x ∷ ys) = λ k h. subst (λ z. In k (z ∷ ys)) (sym same) (into k h) in
      let from' : (k : K) → In k (y ∷ ys) → In k (y ∷ xs) = λ k h. subst (λ z. In k (z ∷ xs)) same (from k h) in
      ap (λ z. z ∷ xs) same ∙ ap (λ zs. y ∷ zs) (one_rising_list xs ys up.1 up'.1 (in_rest x xs ys up.0 into') (in_rest y ys xs up'.0 from'))

  less_of : (x y : K) → is_lt (R y x) ≡ false → eq_by_cmp R x y ≡ false → R x y ≡ Less
  less_of x y low apart = o.antisymm x y ∙ turned (R y x) (R x y) (o.antisymm x y) low apart
    where
      turned : (a b : Ordering) → b ≡ ordering_reverse a → is_lt a ≡ false → is_eq b ≡ false → ordering_reverse a ≡ Less
      turned Less b e low apart = cc
      turned Equal b e low apart = absurd (let bad : true ≡ false = ap is_eq (sym e) ∙ apart in cc)
      turned Greater b e low apart = refl

  -- a sorted list of elements that differ rises
  rising_of : (ys : List K) → IsSorted R ys → IsDistinct (eq_by_cmp R) ys → IsStrictlySortedBy R ys
  unfolding IsStrictlySortedBy
  rising_of [] sorted apart = tt
  rising_of (y ∷ ys) sorted apart =
      sorted_from_all_adjacent o (y ∷ ys) y (λ k l.
      less_of (get_or (y ∷ ys) k y) (get_or (y ∷ ys) (k + 1) y) (sorted k y (omega arith) l) (apart_from_distinct (eq_by_cmp R) (y ∷ ys) k (k + 1) y apart (omega arith) l))

-- ---- which granules they are

ex_is : (held : Option Mode) → is_ex held ≡ true → held ≡ Some EX
ex_is None e = cc
ex_is (Some m) e = ap Some (write_is m e)
  where
    write_is : (m : Mode) → is_write m ≡ true → m ≡ EX
    write_is EX e = refl
    write_is _ e = cc

granule_in : (rs : List Request) (r : Request) → In r rs → In r.granule (map (λ (x : Request). x.granule) rs)
granule_in [] r h = absurd h
granule_in (x ∷ rs) r h = ⊎_elim (λ e. inl (ap (λ (x : Request). x.granule) e)) (λ later. inr (granule_in rs r later)) h

from_granule : (rs : List Request) (g : Granule) → In g (map (λ (x : Request). x.granule) rs) → (r : Request) × In r rs × (r.granule ≡ g)
from_granule [] g h = absurd h
from_granule (x ∷ rs) g h = ⊎_elim (λ e. (x, inl refl, e)) (λ later. let r = from_granule rs g later in (r.0, inr r.1, r.2)) h

pub ex_held : (t : ℕ) (rs : List Request) → AreRequests rs → (g : Granule) → In g (granules_in_ex t rs) → mode_held t g rs ≡ Some EX
ex_held t rs one g h =
    let f = from_granule (filter (λ r. (r.txn == t) && holds_ex r) rs) g h in
    let r = f.0 in
    let kept = In-filter (λ r. (r.txn == t) && holds_ex r) rs r f.1 in
    let own = both_true (r.txn == t) (holds_ex r) kept.1 in
    let by : r.txn ≡ t = (Decides-eqb r.txn t).0 own.0 in
    let found : request_for t g rs ≡ Some r = subst (λ u. request_for u g rs ≡ Some r) by (subst (λ k. request_for r.txn k rs ≡ Some r) f.2 (request_in rs one r kept.0)) in
    rw found (ex_is r.held own.1)

pub held_ex : (t : ℕ) (rs : List Request) (g : Granule) → mode_held t g rs ≡ Some EX → In g (granules_in_ex t rs)
held_ex t rs g is =
    let f = held_in (request_for t g rs) EX is in
    let r = f.0 in
    let found = found_in (is_for t g) rs r f.1 in
    let key = both_true (r.txn == t) (same_granule r.granule g) found.1 in
    let passes : ((r.txn == t) && holds_ex r) ≡ true = rw (key.0, f.2) refl in
    subst (λ k. In k (granules_in_ex t rs)) ((same_granule-Decides r.granule g).0 key.1)
    (granule_in (filter (λ r. (r.txn == t) && holds_ex r) rs) r (filter-In (λ r. (r.txn == t) && holds_ex r) rs r found.0 passes))

-- ---- each comes once

differ_in : (t : ℕ) (rs : List Request) → AreRequests rs → IsDistinct (eq_by_cmp granule_cmp) (granules_in_ex t rs)
unfolding IsDistinct
differ_in t [] one = tt
differ_in t (r ∷ rs) one =
    ⊎_elim
    (λ yes. subst (λ xs. IsDistinct (eq_by_cmp granule_cmp) (map (λ (x : Request). x.granule) xs)) (sym (filter-yes (λ r. (r.txn == t) && holds_ex r) r rs yes)) (
      recursion_from_All (λ h. eq_by_cmp granule_cmp r.granule h ≡ false) (granules_in_ex t rs)
          (All-In (λ h. eq_by_cmp granule_cmp r.granule h ≡ false) (granules_in_ex t rs) (λ h i.
          let f = from_granule (filter (λ r. (r.txn == t) && holds_ex r) rs) h i in
          let kept = In-filter (λ r. (r.txn == t) && holds_ex r) rs f.0 f.1 in
          let apart : are_alike r f.0 ≡ false = In-All (λ other. are_alike r other ≡ false) rs f.0 one.0 kept.0 in
          let by : r.txn ≡ f.0.txn = (Decides-eqb r.txn t).0 (both_true (r.txn == t) (holds_ex r) yes).0 ∙ sym ((Decides-eqb f.0.txn t).0 (both_true (f.0.txn == t) (holds_ex f.0) kept.1).0) in
          apart_by_order r.granule h (λ same. let alike : are_alike r f.0 ≡ true = (alike-Decides r f.0).1 (by, same ∙ sym f.2) in let clash : true ≡ false = sym alike ∙ apart in cc))),
      differ_in t rs one.1,
    ))
    (λ no. subst (λ xs. IsDistinct (eq_by_cmp granule_cmp) (map (λ (x : Request). x.granule) xs)) (sym (filter-no (λ r. (r.txn == t) && holds_ex r) r rs no)) (differ_in t rs one.1))
    (either ((r.txn == t) && holds_ex r))

-- ---- as they are listed

by_own : (t : ℕ) (rs : List Request) → filter (λ r. (r.txn == t) && holds_ex r) rs ≡ filter holds_ex (requests_by t rs)
by_own t [] = refl
by_own t (r ∷ rs) =
    ⊎_elim
    (λ own. ⊎_elim
    (λ ex. filter-yes (λ r. (r.txn == t) && holds_ex r) r rs (ap (λ b. b && holds_ex r) own ∙ ex) ∙ ap (λ xs. r ∷ xs) (by_own t rs)
    ∙ sym (ap (filter holds_ex) (filter-yes (λ r. r.txn == t) r rs own) ∙ filter-yes holds_ex r (requests_by t rs) ex))
    (λ less. filter-no (λ r. (r.txn == t) && holds_ex r) r rs (ap (λ b. b && holds_ex r) own ∙ less) ∙ by_own t rs
    ∙ sym (ap (filter holds_ex) (filter-yes (λ r. r.txn == t) r rs own) ∙ filter-no holds_ex r (requests_by t rs) less))
    (either (holds_ex r)))
    (λ other. filter-no (λ r. (r.txn == t) && holds_ex r) r rs (ap (λ b. b && holds_ex r) other) ∙ by_own t rs ∙ sym (ap (filter holds_ex) (filter-no (λ r. r.txn == t) r rs other)))
    (either (r.txn == t))

same_own : (t : ℕ) (ws rs : List Request) → requests_by t ws ≡ requests_by t rs → granules_in_ex t ws ≡ granules_in_ex t rs
same_own t ws rs same = ap (map (λ (r : Request). r.granule)) (by_own t ws ∙ ap (filter holds_ex) same ∙ sym (by_own t rs))

-- what a walk over the transaction's requests has found, in order
module _ (t : ℕ) (ws rs : List Request) (one : AreRequests rs) (own : requests_by t ws ≡ requests_by t rs) (xs ys : List Granule) (are : xs ≡ granules_in_ex t ws) (moved : IsPermutation xs ys) where
  pub listed_held : (g : Granule) → Contains ys g ↔ (mode_held t g rs ≡ Some EX)
  listed_held g = (
    λ c. ex_held t rs one g (subst (In g) (are ∙ same_own t ws rs own) (Contains-In xs g (Contains-permutation ys xs g (IsPermutation-sym xs ys moved) c))),
    λ is. Contains-permutation xs ys g moved (In-Contains xs g (subst (In g) (sym (are ∙ same_own t ws rs own)) (held_ex t rs g is))),
  )

  -- no more than there are requests
  pub listed_few : length ys ≤ length rs
  listed_few =
      let moved_few = length_permutation xs ys moved in
      let same : length xs ≡ length (granules_in_ex t rs) = ap length (are ∙ same_own t ws rs own) in
      let mapped = length-map (filter (λ r. (r.txn == t) && holds_ex r) rs) (λ (r : Request). r.granule) in
      let most = length-filter_most (λ (r : Request). (r.txn == t) && holds_ex r) rs in
      omega (arith, moved_few, same, mapped, most)

  pub listed_rising : IsSorted granule_cmp ys → IsStrictlySortedBy granule_cmp ys
  listed_rising sorted =
      rising_of granules_total ys sorted
      (IsDistinct-IsPermutation (eq_by_cmp granule_cmp) flips xs ys moved (subst (IsDistinct (eq_by_cmp granule_cmp)) (sym (are ∙ same_own t ws rs own)) (differ_in t rs one)))
    where
      flips : (x y : Granule) → eq_by_cmp granule_cmp x y ≡ eq_by_cmp granule_cmp y x
      flips x y = (eq_by_cmp_equiv granules_total).symm x y
