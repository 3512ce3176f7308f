-- Those in doubt in the order of their names: a sorted list of them is that of the map by which they are listed.
use Rattle.std.proofs.Common.{◌≡◌, inl, inr, ⊎_elim, ◌+◌, ℕ, List, [], ◌∷◌, Bool, true, false, cond, Option, None, Some, unwrap_or, get_or, map, refl, sym, ap, subst, ◌∙◌, arith}
use Rattle.std.specs.Prelude.{T, ◌&&◌, reverse}
use Rattle.std.specs.Cmp.{IsTotalOrder, eq_by_cmp_equiv}
use Rattle.std.specs.Cmp.Lexicographic.{nat_list_cmp_total, slice_cmp}
use Rattle.std.specs.FinMap.{entries, entries-from_sorted, find, from_entries, from_sorted, get-from_entries, get-from_sorted, is_sorted, nat_cmp-IsAntisymmetric, same_map, slice_cmp-IsAntisymmetric}
use Rattle.std.specs.FinMap.Entries.{below_all}
use Rattle.std.specs.List.{AllByRecursion, IsDistinct, cons_option}
use Rattle.std.specs.List.Sorted.{IsPermutation, IsSortedByKey, IsStrictlySortedBy}
use Rattle.std.specs.Map.{keys_of, lookup}
use Rattle.std.specs.Ordering.{eq_by_cmp, is_eq, is_lt, nat_cmp, ordering_reverse}
use Rattle.std.specs.declared.cmp.Ordering.{Ordering}
use Rattle.std.specs.declared.cmp.Ordering.TheVariants.{Less, Equal, Greater}
use Rattle.std.proofs.lemmas.Bool.{cases_Bool}
use Rattle.std.proofs.lemmas.List.Sorted.{Contains-permutation, IsPermutation-map, IsPermutation-reverse, IsPermutation-sym, IsPermutation-trans}
use Rattle.std.proofs.lemmas.Map.Keys.{IsDistinct-IsPermutation, apart_from_distinct, sorted_from_all_adjacent}
use Rattle.std.proofs.lemmas.Map.Views.{Contains-from_lookup, lookup-from_Contains}
use Rattle.laws_lives.specs.Sessions.{EachOnce, PreparedTxn, SessionTxn, in_use, pair_of, pair_resolved, pairs_of, txns_of}
use Rattle.laws_lives.specs.Views.{IsAmong}
use Rattle.laws_lives.proofs.Booleans.{is_equal}
use Rattle.laws_calls.specs.CallSteps.{listed_in_doubt}
use Rattle.laws_calls.specs.States.{State}
use Rattle.shore_txn.specs.ActiveTxns.{session_txns}
use Rattle.shore_txn.specs.Transactions.{prepared_in}
use Rattle.shore_txn.specs.Transactions as table
use Rattle.shore_txn.specs.Txns.{as_prepared, as_session_txn, global_of, number_of, prepared_of, state_of}
use Rattle.shore_txn.specs.declared.transactions.Transactions.{Transactions}
use Rattle.shore_txn.specs.declared.txn.Txn.{Txn}
use Rattle.shore_txn.proofs.OneOfMany.{among_map, map_among}
use Rattle.shore_sessions.specs.Seated.{NamesDiffer}
use Rattle.shore_sessions.specs.Standing.{HasTxns}
use Rattle.shore_sessions.proofs.Lists.{all_by_members, among_left}
use Rattle.shore_sessions.proofs.Permuted.{among_made, among_permuted}
use Rattle.shore_sessions.proofs.Seats.{doubt_is}

clash : true ≡ false → ⊥
clash e = cc

abbrev Listed : Type 0
Listed = List (List ℕ × ℕ)

abbrev order : List ℕ → List ℕ → Ordering
order = slice_cmp nat_cmp

abbrev by_name : List ℕ × ℕ → List ℕ × ℕ → Ordering
by_name x y = order x.0 y.0

names_total : IsTotalOrder by_name
names_total = record {
  antisymm = λ x y. nat_list_cmp_total.antisymm x.0 y.0;
  trans = λ x y z. nat_list_cmp_total.trans x.0 y.0 z.0;
  congr = λ x y z. nat_list_cmp_total.congr x.0 y.0 z.0;
}

tied : (x y : List ℕ) → eq_by_cmp order x y ≡ true → x ≡ y
tied x y e = slice_cmp-IsAntisymmetric nat_cmp-IsAntisymmetric x y (is_equal (order x y) e)

-- ---- a sorted list in which no name comes twice

less_of : (x y : List ℕ) → is_lt (order y x) ≡ false → eq_by_cmp order x y ≡ false → order x y ≡ Less
less_of x y low apart = turned (order y x) (order x y) (nat_list_cmp_total.antisymm x y) low apart
  where
    turned : (a b : Ordering) → b ≡ ordering_reverse a → is_lt a ≡ false → is_eq b ≡ false → b ≡ Less
    turned Less b e low apart = absurd (clash low)
    turned Equal b e low apart = absurd (clash (sym (ap is_eq e) ∙ apart))
    turned Greater b e low apart = e

both : (a b : Bool) → T a → T b → T (a && b)
both true b h k = k
both false b h k = absurd h

below_rest : (name : List ℕ) (es : Listed) → AllByRecursion (λ y. order name y.0 ≡ Less) es → T (below_all order name es)
below_rest name [] above = tt
below_rest name (e ∷ es) above =
    both (is_lt (order name e.0)) (below_all order name es) (subst (λ o. T (is_lt o)) (sym above.0) tt) (below_rest name es above.1)

rising_sorted : (es : Listed) → IsStrictlySortedBy by_name es → T (is_sorted order es)
unfolding IsStrictlySortedBy
rising_sorted [] up = tt
rising_sorted (e ∷ es) up = both (below_all order e.0 es) (is_sorted order es) (below_rest e.0 es up.0) (rising_sorted es up.1)

names_rise : (es : Listed) → IsSortedByKey (λ (p : List ℕ × ℕ). p.0) order es → IsDistinct (eq_by_cmp by_name) es → T (is_sorted order es)
names_rise es sorted apart =
    rising_sorted es
    (sorted_from_all_adjacent names_total es ([], 0) (λ k within.
    less_of (get_or es k ([], 0)).0 (get_or es (k + 1) ([], 0)).0 (sorted k ([], 0) (omega arith) within)
    (apart_from_distinct (eq_by_cmp by_name) es k (k + 1) ([], 0) apart (omega arith) within)))

-- ---- what a look-up finds

keys_apart : (es : Listed) → IsDistinct (eq_by_cmp by_name) es → IsDistinct (eq_by_cmp order) (keys_of es)
unfolding IsDistinct
keys_apart [] apart = tt
keys_apart (e ∷ es) apart = (others es apart.0, keys_apart es apart.1)
  where
    others : (fs : Listed) → AllByRecursion (λ y. eq_by_cmp by_name e y ≡ false) fs → AllByRecursion (λ k. eq_by_cmp order e.0 k ≡ false) (keys_of fs)
    others [] all = tt
    others (f ∷ fs) all = (all.0, others fs all.1)

found_by : (q : List ℕ) (es : Listed) → find order q es ≡ lookup (eq_by_cmp order q) es
found_by q [] = refl
found_by q (e ∷ es) = ap (cond (eq_by_cmp order q e.0) (Some e.1)) (found_by q es)

both_ways : (a b : Option ℕ) → ((t : ℕ) → a ≡ Some t → b ≡ Some t) → ((t : ℕ) → b ≡ Some t → a ≡ Some t) → a ≡ b
both_ways None None to from = refl
both_ways None (Some t) to from = from t refl
both_ways (Some t) b to from = sym (to t refl)

flips : (x y : List ℕ × ℕ) → eq_by_cmp by_name x y ≡ eq_by_cmp by_name y x
flips x y = (eq_by_cmp_equiv names_total).symm x y

looked_up : (ps es : Listed) → IsPermutation ps es → IsDistinct (eq_by_cmp by_name) es → (q : List ℕ) (t : ℕ) → lookup (eq_by_cmp order q) ps ≡ Some t → lookup (eq_by_cmp order q) es ≡ Some t
looked_up ps es same apart q t is =
    lookup-from_Contains (eq_by_cmp_equiv nat_list_cmp_total) q t es (keys_apart es apart) (Contains-permutation ps es (q, t) same (Contains-from_lookup tied q t ps is))

-- the sorted list is that of a map from the same names, in any order
map_lists : (ps es : Listed) → IsPermutation ps es → IsDistinct (eq_by_cmp by_name) es → IsSortedByKey (λ (p : List ℕ × ℕ). p.0) order es → es ≡ entries (from_entries {R = order} ps)
map_lists ps es same apart sorted =
    let rises = names_rise es sorted apart in
    let back = IsPermutation-sym ps es same in
    let apart_too = IsDistinct-IsPermutation (eq_by_cmp by_name) flips es ps back apart in
    sym (entries-from_sorted order es rises)
    ∙ ap entries (same_map nat_list_cmp_total (slice_cmp-IsAntisymmetric nat_cmp-IsAntisymmetric) (from_sorted es) (from_entries ps)
    (λ q.
    get-from_sorted order es q rises ∙ found_by q es
    ∙ both_ways (lookup (eq_by_cmp order q) es) (lookup (eq_by_cmp order q) ps) (looked_up es ps back apart_too q) (looked_up ps es same apart q)
    ∙ sym (found_by q ps) ∙ sym (get-from_entries nat_list_cmp_total ps q)))

-- ---- those in doubt

abbrev named : PreparedTxn → List ℕ × ℕ
named p = (p.global, p.txn)

-- if no name is that of two, no two of a table have one name
doubts_apart : (ts : List Txn) → EachOnce (txns_of (session_txns ts))
    → ((p q : PreparedTxn) → IsAmong p (prepared_of ts) → IsAmong q (prepared_of ts) → p.global ≡ q.global → p.txn ≡ q.txn) → IsDistinct (eq_by_cmp by_name) (map named (prepared_of ts))
unfolding IsDistinct
doubts_apart [] once differ = tt
doubts_apart (t ∷ ts) once differ =
    (elim (as_prepared t) as
    (λ o. as_prepared t ≡ o → ((p q : PreparedTxn) → IsAmong p (cons_option o (prepared_of ts)) → IsAmong q (cons_option o (prepared_of ts)) → p.global ≡ q.global → p.txn ≡ q.txn)
    → IsDistinct (eq_by_cmp by_name) (map named (cons_option o (prepared_of ts)))) [
      | None ↦ λ is apart. doubts_apart ts once.1 apart
      | Some p ↦ λ is apart. (
        all_by_members (λ (y : List ℕ × ℕ). eq_by_cmp by_name (named p) y ≡ false) (map named (prepared_of ts)) (λ y m. others p is (λ q n. apart p q (inl refl) (inr n)) y m),
        doubts_apart ts once.1 (λ x y m n. apart x y (inr m) (inr n)),
      )
    ]) refl differ
  where
    others : (p : PreparedTxn) → as_prepared t ≡ Some p → ((q : PreparedTxn) → IsAmong q (prepared_of ts) → p.global ≡ q.global → p.txn ≡ q.txn) → (y : List ℕ × ℕ) → IsAmong y (map named (prepared_of ts))
        → eq_by_cmp order p.global y.0 ≡ false
    others p is apart y m = ⊎_elim
        (λ alike.
        let q = map_among named y (prepared_of ts) m in
        let number = apart q.0 q.1 (tied p.global y.0 alike ∙ sym (ap (λ (x : List ℕ × ℕ). x.0) q.2)) in
        let u = among_made as_prepared q.0 ts q.1 in
        let its = (doubt_is (number_of t) (unwrap_or (global_of t) []) (state_of t) p is).txn in
        let other = (doubt_is (number_of u.0) (unwrap_or (global_of u.0) []) (state_of u.0) q.0 u.2).txn in
        absurd (once.0 (subst (λ n. IsAmong n (txns_of (session_txns ts))) (other ∙ sym number ∙ sym its)
        (among_map (λ (a : SessionTxn). a.txn) (as_session_txn u.0) (session_txns ts) (among_map as_session_txn u.0 ts u.1)))))
        (λ differs. differs)
        (cases_Bool (eq_by_cmp order p.global y.0))

pub doubts_listed : (txns : Transactions) (s : State) → HasTxns txns s → NamesDiffer s.sessions → (found : Listed) → IsPermutation (map named (reverse (prepared_in txns))) found
    → IsSortedByKey (λ (p : List ℕ × ℕ). p.0) order found → found ≡ listed_in_doubt s.sessions
doubts_listed txns s was differ found moved sorted = map_lists (map named s.sessions.prepared) found
    (IsPermutation-trans (map named s.sessions.prepared) (map named (prepared_in txns)) found (IsPermutation-map named s.sessions.prepared (prepared_in txns) was.prepared) turned)
    (IsDistinct-IsPermutation (eq_by_cmp by_name) flips (map named (prepared_in txns)) found turned
    (doubts_apart (table.txns_in txns) txns.numbers (λ p q m n. differ (pair_of p) (pair_of q) (used p m) (used q n)))) sorted
  where
    turned : IsPermutation (map named (prepared_in txns)) found
    turned =
        IsPermutation-trans (map named (prepared_in txns)) (map named (reverse (prepared_in txns))) found
        (IsPermutation-map named (prepared_in txns) (reverse (prepared_in txns)) (IsPermutation-reverse (prepared_in txns))) moved

    used : (p : PreparedTxn) → IsAmong p (prepared_in txns) → IsAmong (pair_of p) (in_use s.sessions)
    used p m =
        among_left (pair_of p) (pairs_of s.sessions.prepared) (map pair_resolved s.sessions.resolving)
        (among_map pair_of p s.sessions.prepared (among_permuted s.sessions.prepared (prepared_in txns) was.prepared p m))
