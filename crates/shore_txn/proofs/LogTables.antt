-- The table of transactions that a checkpoint takes: as a walk finds it, and put in order.
use Rattle.std.proofs.Common.{◌≡◌, ◌+◌, ◌<◌, ◌≤◌, ℕ, List, [], ◌∷◌, ◌++◌, Bool, true, false, cond, eqb, get_or, length, map, reverse, take, inl, inr, refl, sym, ap, subst, ◌∙◌, arith}
use Rattle.std.specs.Prelude.{◌&&◌, ◌⊎◌, IsPermutation, IsTrue, filter}
use Rattle.std.specs.Cmp.{ranks}
use Rattle.std.specs.Ordering.{MatchOrdering, nat_cmp}
use Rattle.std.specs.declared.cmp.Ordering.TheVariants.{Less}
use Rattle.std.specs.List.{AllByRecursion, IsDistinct}
use Rattle.std.specs.List.Sorted.{IsNonDecreasing, IsNonDecreasingBy, IsStrictlySortedBy}
use Rattle.std.proofs.lemmas.Bool.{cases_eq, eq-eqb, lt-ltb, ne_eqb}
use Rattle.std.proofs.lemmas.List.{append-nil, get_or-map, length-map, map-append, reverse-append, reverse-reverse, take_more}
use Rattle.std.proofs.lemmas.List.Elements.{All-from_recursion, filter-append, recursion_from_All}
use Rattle.std.proofs.lemmas.List.Sorted.{All-permutation, IsPermutation-map, IsPermutation-reverse, IsPermutation-trans}
use Rattle.std.proofs.lemmas.Map.Keys.{IsDistinct-IsPermutation, IsStrictlyIncreasing-from_distinct, sorted_from_strictly_increasing}
use Rattle.shore_model.specs.declared.log_records.LogTxn.{LogTxn}
use Rattle.shore_model.specs.declared.log_records.TxnState.TheVariants as state
use Rattle.shore_model.specs.Logs.{rise_above}
use Rattle.laws_lives.specs.Sessions.{EachOnce, txns_of}
use Rattle.laws_lives.specs.Views.{IsAmong}
use Rattle.laws_lives.proofs.Lists.{among_append, among_left, among_right}
use Rattle.shore_txn.specs.ActiveTxns as active
use Rattle.shore_txn.specs.ActiveTxns.{session_txns}
use Rattle.shore_txn.specs.LogEntries.{IsLeastFirst, entries_logged, entry_of, has_logged}
use Rattle.shore_txn.specs.Txns.{first_of, number_of}
use Rattle.shore_txn.specs.declared.active.ActiveTxn.{ActiveTxn}
use Rattle.shore_txn.specs.declared.txn.Txn.{Txn}
use Rattle.shore_txn.proofs.DoubtsListed.{take_whole}

-- ---- a walk

-- those of a list that has the oldest first
abbrev pub listed_in_turn : List ActiveTxn → List LogTxn
listed_in_turn items = entries_logged (map (λ (a : ActiveTxn). a.txn) items)

logged_append : (ts us : List Txn) → entries_logged (ts ++ us) ≡ entries_logged ts ++ entries_logged us
logged_append ts us = ap (map entry_of) (filter-append has_logged ts us) ∙ map-append entry_of (filter has_logged ts) (filter has_logged us)

more_listed : (items : List ActiveTxn) (i : ℕ) (a : ActiveTxn) → i < length items → get_or items i a ≡ a → listed_in_turn (take (i + 1) items) ≡ listed_in_turn (take i items) ++ entries_logged (a.txn ∷ [])
more_listed items i a inside is =
    ap listed_in_turn (take_more items i a inside ∙ ap (λ x. take i items ++ x ∷ []) is)
    ∙ ap entries_logged (map-append (λ (x : ActiveTxn). x.txn) (take i items) (a ∷ []))
    ∙ logged_append (map (λ (x : ActiveTxn). x.txn) (take i items)) (a.txn ∷ [])

module _ (items : List ActiveTxn) (i : ℕ) (a : ActiveTxn) (inside : i < length items) (is : get_or items i a ≡ a) where
  pub one_listed : has_logged a.txn ≡ true → listed_in_turn (take (i + 1) items) ≡ listed_in_turn (take i items) ++ entry_of a.txn ∷ []
  one_listed logged = more_listed items i a inside is ∙ ap (λ b. listed_in_turn (take i items) ++ map entry_of (cond b (a.txn ∷ []) [])) logged

  pub none_listed : has_logged a.txn ≡ false → listed_in_turn (take (i + 1) items) ≡ listed_in_turn (take i items)
  none_listed not =
      more_listed items i a inside is ∙ ap (λ b. listed_in_turn (take i items) ++ map entry_of (cond b (a.txn ∷ []) [])) not ∙ append-nil (listed_in_turn (take i items))

-- the walk has seen all
pub all_listed : (items : List ActiveTxn) (n : ℕ) → length items ≤ n → listed_in_turn (take n items) ≡ listed_in_turn items
all_listed items n least = ap listed_in_turn (take_whole n items least)

-- ---- the same in another order

logged_reverse : (ts : List Txn) → entries_logged (reverse ts) ≡ reverse (entries_logged ts)
logged_reverse [] = refl
logged_reverse (t ∷ ts) =
    ap entries_logged (reverse-append (t ∷ []) ts) ∙ logged_append (reverse ts) (t ∷ []) ∙ ap (λ es. es ++ entries_logged (t ∷ [])) (logged_reverse ts) ∙ at (has_logged t)
  where
    at : (b : Bool) → reverse (entries_logged ts) ++ map entry_of (cond b (t ∷ []) []) ≡ reverse (map entry_of (cond b (t ∷ filter has_logged ts) (filter has_logged ts)))
    at true = sym (reverse-append (entry_of t ∷ []) (entries_logged ts))
    at false = append-nil (reverse (entries_logged ts))

pub same_entries : (items : List ActiveTxn) (table : List LogTxn) → IsPermutation (listed_in_turn items) table → IsPermutation (entries_logged (active.txns_of items)) table
same_entries items table moved =
    let turned = logged_reverse (map (λ (a : ActiveTxn). a.txn) items) in
    let back : IsPermutation (reverse (listed_in_turn items)) (listed_in_turn items) =
    subst (IsPermutation (reverse (listed_in_turn items))) (reverse-reverse (listed_in_turn items)) (IsPermutation-reverse (reverse (listed_in_turn items))) in
    subst (λ es. IsPermutation es table) (sym turned) (IsPermutation-trans (reverse (listed_in_turn items)) (listed_in_turn items) table back moved)

-- ---- in order

eqb_comm : (m n : ℕ) → eqb m n ≡ eqb n m
eqb_comm m n = elim (cases_eq m n) [
  | inl same ↦ eq-eqb m n same ∙ sym (eq-eqb n m (sym same))
  | inr other ↦ ne_eqb m n other ∙ sym (ne_eqb n m (λ same. other (sym same)))
]

abbrev txn_number : LogTxn → ℕ
txn_number e = e.txn

some_number : (ts : List Txn) → AllByRecursion (λ e. 0 < txn_number e) (entries_logged ts)
some_number [] = tt
some_number (t ∷ ts) = at (has_logged t) (some_number ts)
  where
    at : (b : Bool) → AllByRecursion (λ e. 0 < txn_number e) (entries_logged ts) → AllByRecursion (λ e. 0 < txn_number e) (map entry_of (cond b (t ∷ filter has_logged ts) (filter has_logged ts)))
    at true rest = (let some = t.some in omega (arith, some), rest)
    at false rest = rest

apart : (n : ℕ) (ts : List Txn) → (IsAmong n (txns_of (session_txns ts)) → ⊥) → AllByRecursion (λ m. eqb n m ≡ false) (map txn_number (entries_logged ts))
apart n [] none = tt
apart n (t ∷ ts) none = at (has_logged t) (apart n ts (λ m. none (inr m)))
  where
    at : (b : Bool) → AllByRecursion (λ m. eqb n m ≡ false) (map txn_number (entries_logged ts)) → AllByRecursion (λ m. eqb n m ≡ false) (map txn_number (map entry_of (cond b (t ∷ filter has_logged ts) (filter has_logged ts))))
    at true rest = (ne_eqb n (number_of t) (λ same. none (inl (sym same))), rest)
    at false rest = rest

distinct : (ts : List Txn) → EachOnce (txns_of (session_txns ts)) → IsDistinct eqb (map txn_number (entries_logged ts))
unfolding IsDistinct
distinct [] once = tt
distinct (t ∷ ts) once = at (has_logged t) (distinct ts once.1)
  where
    at : (b : Bool) → IsDistinct eqb (map txn_number (entries_logged ts)) → IsDistinct eqb (map txn_number (map entry_of (cond b (t ∷ filter has_logged ts) (filter has_logged ts))))
    at true rest = (apart (number_of t) ts once.0, rest)
    at false rest = rest

rise_from : (n : ℕ) (es : List LogTxn) → AllByRecursion (λ e. n < txn_number e) es → IsStrictlySortedBy nat_cmp (map txn_number es) → IsTrue (rise_above n es)
unfolding IsStrictlySortedBy
rise_from n [] above sorted = refl
rise_from n (e ∷ es) above sorted = ap (λ b. b && rise_above (txn_number e) es) (lt-ltb n (txn_number e) above.0) ∙ rise_from (txn_number e) es (all es sorted.0) sorted.1
  where
    below : (m k : ℕ) → nat_cmp m k ≡ Less → m < k
    below m k e = subst (λ r. MatchOrdering r (m < k) (m ≡ k) (k < m)) e (ranks m k)

    all : (xs : List LogTxn) → AllByRecursion (λ m. nat_cmp (txn_number e) m ≡ Less) (map txn_number xs) → AllByRecursion (λ x. txn_number e < txn_number x) xs
    all [] h = tt
    all (x ∷ xs) h = (below (txn_number e) (txn_number x) h.0, all xs h.1)

pub rising : (ts : List Txn) (table : List LogTxn) → EachOnce (txns_of (session_txns ts)) → IsPermutation (entries_logged ts) table → IsNonDecreasingBy txn_number table → IsTrue (rise_above 0 table)
rising ts table once moved order =
    rise_from 0 table
    (recursion_from_All (λ e. 0 < txn_number e) table (All-permutation (λ e. 0 < txn_number e) (entries_logged ts) table moved (All-from_recursion (λ e. 0 < txn_number e) (entries_logged ts) (some_number ts))))
    (sorted_from_strictly_increasing (map txn_number table)
    (IsStrictlyIncreasing-from_distinct (map txn_number table) numbers_order
    (IsDistinct-IsPermutation eqb eqb_comm (map txn_number (entries_logged ts)) (map txn_number table) (IsPermutation-map txn_number (entries_logged ts) table moved) (distinct ts once))))
  where
    numbers_order : IsNonDecreasing (map txn_number table)
    numbers_order i j d le lt =
        let none : LogTxn = record { txn = 0; state = state.Active; first = 0; last = 0; undo_next = 0; prepare = 0 } in
        let long : length (map txn_number table) ≡ length table = length-map table txn_number in
        let within : j < length table = omega (arith, long, lt) in
        let rise = order i j none le within in
        omega (arith, rise, get_or-map txn_number table i none d (omega arith), get_or-map txn_number table j none d within)

-- ---- the least of their first numbers

module _ (items : List ActiveTxn) (i : ℕ) (a : ActiveTxn) (inside : i < length items) (is : get_or items i a ≡ a) where
  abbrev so_far : List Txn
  so_far = map (λ (x : ActiveTxn). x.txn) (take i items)

  one_further : map (λ (x : ActiveTxn). x.txn) (take (i + 1) items) ≡ so_far ++ a.txn ∷ []
  one_further = ap (map (λ (x : ActiveTxn). x.txn)) (take_more items i a inside ∙ ap (λ x. take i items ++ x ∷ []) is) ∙ map-append (λ (x : ActiveTxn). x.txn) (take i items) (a ∷ [])

  pub least_further : (least lesser : ℕ) → IsLeastFirst so_far least → (0 < least → (0 < lesser) × (lesser ≤ least)) → (0 < first_of a.txn → (0 < lesser) × (lesser ≤ first_of a.txn))
      → (lesser ≡ least) ⊎ ((0 < first_of a.txn) × (first_of a.txn ≡ lesser)) → IsLeastFirst (map (λ (x : ActiveTxn). x.txn) (take (i + 1) items)) lesser
  least_further least lesser was still below one = subst (λ ts. IsLeastFirst ts lesser) (sym one_further) (record {
    below = λ t m some. elim (among_push t m) [
      | inl early ↦ let old = was.below t early some in let now = still old.0 in (now.0, let far = now.1 in let far2 = old.1 in omega (arith, far, far2))
      | inr last ↦ by_last t last some
    ];
    one = elim one [
      | inl same ↦ elim was.one [
        | inl none ↦ inl (same ∙ none)
        | inr its ↦ inr (its.0, among_front its.0 its.1, (its.2.0, its.2.1 ∙ sym same))
      ]
      | inr its ↦ inr (a.txn, among_right a.txn so_far (a.txn ∷ []) (inl refl), its)
    ];
  })
    where
      by_last : (t : Txn) → a.txn ≡ t → 0 < first_of t → (0 < lesser) × (lesser ≤ first_of t)
      by_last t same = subst (λ (u : Txn). 0 < first_of u → (0 < lesser) × (lesser ≤ first_of u)) same below

      among_push : (t : Txn) → IsAmong t (so_far ++ a.txn ∷ []) → IsAmong t so_far ⊎ (a.txn ≡ t)
      among_push t m = elim (among_append t so_far (a.txn ∷ []) m) [ inl early ↦ inl early | inr last ↦ elim last [ inl same ↦ inr same | inr none ↦ absurd none ] ]

      among_front : (t : Txn) → IsAmong t so_far → IsAmong t (so_far ++ a.txn ∷ [])
      among_front t m = among_left t so_far (a.txn ∷ []) m

pub least_in_all : (items : List ActiveTxn) (n least : ℕ) → length items ≤ n → IsLeastFirst (map (λ (x : ActiveTxn). x.txn) (take n items)) least → IsLeastFirst (active.txns_of items) least
least_in_all items n least all is =
    let whole : IsLeastFirst txns least = subst (λ (xs : List ActiveTxn). IsLeastFirst (map (λ (x : ActiveTxn). x.txn) xs) least) (take_whole n items all) is in
    record {
      below = λ t m some. whole.below t (subst (IsAmong t) (reverse-reverse txns) (turned t (reverse txns) m)) some;
      one = elim whole.one [ inl none ↦ inl none | inr its ↦ inr (its.0, turned its.0 txns its.1, its.2) ];
    }
  where
    txns : List Txn
    txns = map (λ (x : ActiveTxn). x.txn) items

    turned : (t : Txn) (ts : List Txn) → IsAmong t ts → IsAmong t (reverse ts)
    turned t [] none = absurd none
    turned t (x ∷ ts) (inl same) = subst (IsAmong t) (sym (reverse-append (x ∷ []) ts)) (among_right t (reverse ts) (x ∷ []) (inl same))
    turned t (x ∷ ts) (inr later) = subst (IsAmong t) (sym (reverse-append (x ∷ []) ts)) (among_left t (reverse ts) (x ∷ []) (turned t ts later))
