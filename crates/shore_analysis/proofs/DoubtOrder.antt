-- The entries of those in doubt, in the order of their Prepares, are the log's.
use Rattle.std.proofs.Common.{◌≡◌, inl, inr, ⊎_elim, ◌<◌, ℕ, List, [], ◌∷◌, Bool, true, false, cond, eqb, Some, map, refl, sym, ap, subst, ◌∙◌, length, arith}
use Rattle.std.specs.Prelude.{IsPermutation, IsTrue, filter, nat_lt}
use Rattle.std.specs.List.{AllByRecursion, IsDistinct}
use Rattle.std.specs.List.Sorted.{IsNonDecreasing, IsNonDecreasingBy}
use Rattle.std.proofs.lemmas.Bool.{cases_eq, eq-eqb, ltb-true, ne_eqb}
use Rattle.std.proofs.lemmas.List.{get_or-map, length-map}
use Rattle.std.proofs.lemmas.List.Elements.{All-from_recursion, recursion_from_All}
use Rattle.std.proofs.lemmas.List.Sorted.{All-permutation, Contains-permutation, IsPermutation-map}
use Rattle.std.proofs.lemmas.Map.Keys.{IsDistinct-IsPermutation, IsStrictlyIncreasing-from_distinct, sorted_from_strictly_increasing}
use Rattle.shore_model.specs.declared.log_records.LogRecord.{LogRecord}
use Rattle.shore_model.specs.declared.log_records.LogTxn.{LogTxn}
use Rattle.shore_model.specs.Logs.{IsEntry, IsTable, in_doubt_in, is_in_doubt, is_over, is_prepared, prepare_number, rise_above}
use Rattle.laws_lives.specs.Views.{IsAmong}
use Rattle.laws_lives.proofs.Booleans.{and_true}
use Rattle.laws_lives.proofs.DoubtRecords.{among_filter}
use Rattle.shore_analysis.specs.Passes.{begun}
use Rattle.laws_lives.specs.Doubts.{LoggedDoubt, doubts_in}
use Rattle.shore_analysis.specs.Doubts.{doubt_at}
use Rattle.shore_analysis.proofs.Counted.{Among, doubt_listed}
use Rattle.shore_analysis.proofs.DoubtsTold.{once_told}
use Rattle.shore_analysis.proofs.InOrder.{PrepareOnce, Rises, all_among, among_contains, among_map, contains_among, filter_among, is_among, map_among, once_rise, one_of_all, prepares, rises_filter, rises_from, same_rising, txn_at, txn_is}
use Rattle.shore_analysis.proofs.MeantLogs.{in_doubt_prepared}
use Rattle.shore_analysis.proofs.OneMore.{prepare_known}
use Rattle.shore_analysis.proofs.Phases.{IsUndecided}

eqb_comm : (m n : ℕ) → eqb m n ≡ eqb n m
eqb_comm m n = ⊎_elim (λ same. eq-eqb m n same ∙ sym (eq-eqb n m (sym same))) (λ other. ne_eqb m n other ∙ sym (ne_eqb n m (λ same. other (sym same)))) (cases_eq m n)

abbrev is_doubtful : LogTxn → Bool
is_doubtful e = is_prepared e.state

abbrev prepare_of : LogTxn → ℕ
prepare_of e = e.prepare

-- The test picks those in doubt that have not ended, of whom each has one Prepare.
module _ (log : List LogRecord) (in_doubt : ℕ → Bool) (doubtful : (t : ℕ) → in_doubt t ≡ true → is_in_doubt t log ≡ true) (running : (t : ℕ) → in_doubt t ≡ true → IsUndecided log t)
    (picks : (t : ℕ) → is_in_doubt t log ≡ true → is_over t log ≡ false → in_doubt t ≡ true) (rise : Rises (map (λ t. prepare_number t log) (filter in_doubt (prepares log)))) where
  abbrev number : ℕ → ℕ
  number t = prepare_number t log

  -- one in doubt has a Prepare, whose number is its
  some : (t : ℕ) → in_doubt t ≡ true → 0 < number t
  some t doubts = ltb-true 0 (number t) (prepare_known t log ∙ in_doubt_prepared t log (doubtful t doubts))

  is_in_doubt_in : (t : ℕ) → in_doubt t ≡ true → IsAmong t (filter in_doubt (prepares log))
  is_in_doubt_in t doubts = filter_among in_doubt t (prepares log) (is_among t log (in_doubt_prepared t log (doubtful t doubts))) doubts

  -- an entry of one in doubt
  record IsDoubt (e : LogTxn) : Type 0 where
    pub doubts : in_doubt e.txn ≡ true
    pub prepare : e.prepare ≡ number e.txn

  its_txn : (e : LogTxn) → IsDoubt e → txn_at log e.prepare ≡ e.txn
  its_txn e d = ap (txn_at log) d.prepare ∙ txn_is e.txn log (some e.txn d.doubts)

  module _ (txns : List LogTxn) (table : IsTable log txns) where
    are_doubts : (es : List LogTxn) → AllByRecursion (IsEntry log) es → AllByRecursion IsDoubt (filter is_doubtful es)
    are_doubts [] h = tt
    are_doubts (e ∷ es) h = by (is_doubtful e) refl (are_doubts es h.1)
      where
        by : (b : Bool) → is_doubtful e ≡ b → AllByRecursion IsDoubt (filter is_doubtful es) → AllByRecursion IsDoubt (cond b (e ∷ filter is_doubtful es) (filter is_doubtful es))
        by true is rest = (record { doubts = picks e.txn (sym h.0.0.in_doubt ∙ is) h.0.0.not_over; prepare = h.0.1.prepare }, rest)
        by false is rest = rest

    abbrev picked : List LogTxn
    picked = filter is_doubtful txns

    all_doubts : AllByRecursion IsDoubt picked
    all_doubts = are_doubts txns (recursion_from_All (IsEntry log) txns table.each)

    -- ---- two entries have two Prepares

    above_filter : (n : ℕ) (es : List LogTxn) → IsTrue (rise_above n es) → AllByRecursion (λ e. n < e.txn) (filter is_doubtful es)
    above_filter n [] rise = tt
    above_filter n (e ∷ es) rise =
        let both = and_true (nat_lt n e.txn) (rise_above e.txn es) rise in
        let first = ltb-true n e.txn both.0 in
        by (is_doubtful e) first (lower (filter is_doubtful es) first (above_filter e.txn es both.1))
      where
        lower : (xs : List LogTxn) → n < e.txn → AllByRecursion (λ x. e.txn < x.txn) xs → AllByRecursion (λ x. n < x.txn) xs
        lower [] lt h = tt
        lower (x ∷ xs) lt h = (let more = h.0 in omega (arith, lt, more), lower xs lt h.1)

        by : (b : Bool) → n < e.txn → AllByRecursion (λ x. n < x.txn) (filter is_doubtful es) → AllByRecursion (λ x. n < x.txn) (cond b (e ∷ filter is_doubtful es) (filter is_doubtful es))
        by true first rest = (first, rest)
        by false first rest = rest

    apart : (e : LogTxn) (es : List LogTxn) → IsDoubt e → AllByRecursion IsDoubt es → AllByRecursion (λ x. e.txn < x.txn) es → AllByRecursion (λ n. eqb e.prepare n ≡ false) (map prepare_of es)
    apart e [] d h above = tt
    apart e (x ∷ es) d h above =
        (ne_eqb e.prepare x.prepare (λ same. let txns_are : e.txn ≡ x.txn = sym (its_txn e d) ∙ ap (txn_at log) same ∙ its_txn x h.0 in let lt = above.0 in omega (arith, txns_are, lt)), apart e es d h.1 above.1)

    distinct : (n : ℕ) (es : List LogTxn) → IsTrue (rise_above n es) → AllByRecursion IsDoubt (filter is_doubtful es) → IsDistinct eqb (map prepare_of (filter is_doubtful es))
    unfolding IsDistinct
    distinct n [] rise h = tt
    distinct n (e ∷ es) rise h =
        let both = and_true (nat_lt n e.txn) (rise_above e.txn es) rise in
        by (is_doubtful e) (above_filter e.txn es both.1) (λ rest. distinct e.txn es both.1 rest) h
      where
        by : (b : Bool) → AllByRecursion (λ x. e.txn < x.txn) (filter is_doubtful es) → (AllByRecursion IsDoubt (filter is_doubtful es) → IsDistinct eqb (map prepare_of (filter is_doubtful es)))
            → AllByRecursion IsDoubt (cond b (e ∷ filter is_doubtful es) (filter is_doubtful es)) → IsDistinct eqb (map prepare_of (cond b (e ∷ filter is_doubtful es) (filter is_doubtful es)))
        by true above rest all = (apart e (filter is_doubtful es) all.0 all.1 above, rest all.1)
        by false above rest all = rest all

    -- ---- in the order of the Prepares

    module _ (found : List LogTxn) (moved : IsPermutation picked found) (order : IsNonDecreasingBy prepare_of found) where
      found_doubts : AllByRecursion IsDoubt found
      found_doubts = recursion_from_All IsDoubt found (All-permutation IsDoubt picked found moved (All-from_recursion IsDoubt picked all_doubts))

      numbers_moved : IsPermutation (map prepare_of picked) (map prepare_of found)
      numbers_moved = IsPermutation-map prepare_of picked found moved

      numbers_order : IsNonDecreasing (map prepare_of found)
      numbers_order i j d le lt =
          let long : length (map prepare_of found) ≡ length found = length-map found prepare_of in
          let within : j < length found = omega (arith, long, lt) in
          let rise = order i j (begun 0 0) le within in
          omega (arith, rise, get_or-map prepare_of found i (begun 0 0) d (omega arith), get_or-map prepare_of found j (begun 0 0) d within)

      found_rise : Rises (map prepare_of found)
      found_rise =
          rises_from (map prepare_of found) (sorted_from_strictly_increasing (map prepare_of found)
          (IsStrictlyIncreasing-from_distinct (map prepare_of found) numbers_order
          (IsDistinct-IsPermutation eqb eqb_comm (map prepare_of picked) (map prepare_of found) numbers_moved (distinct 0 txns table.rising all_doubts))))

      among_of : (t : ℕ) (es : List LogTxn) → Among t es → (e : LogTxn) × IsAmong e es × (e.txn ≡ t)
      among_of t [] a = absurd a
      among_of t (e ∷ es) (inl own) = (e, inl refl, own)
      among_of t (e ∷ es) (inr later) = let at = among_of t es later in (at.0, inr at.1, at.2)

      to_found : (n : ℕ) → IsAmong n (map number (filter in_doubt (prepares log))) → IsAmong n (map prepare_of found)
      to_found n a =
          let at = map_among number n (filter in_doubt (prepares log)) a in
          let doubts = (among_filter in_doubt at.0 (prepares log) at.1).1 in
          let runs = running at.0 doubts in
          let one = among_of at.0 picked (doubt_listed log txns table at.0 runs.some runs.known runs.runs (doubtful at.0 doubts)) in
          let d = one_of_all IsDoubt one.0 picked all_doubts one.1 in
          let is : one.0.prepare ≡ n = d.prepare ∙ ap number one.2 ∙ at.2 in
          let there = Contains-permutation (map prepare_of picked) (map prepare_of found) n numbers_moved (among_contains n (map prepare_of picked) (subst (λ k. IsAmong k (map prepare_of picked)) is (among_map prepare_of one.0 picked one.1))) in
          contains_among n (map prepare_of found) there.0 there.1 there.2

      to_log : (n : ℕ) → IsAmong n (map prepare_of found) → IsAmong n (map number (filter in_doubt (prepares log)))
      to_log n a =
          let at = map_among prepare_of n found a in
          let d = one_of_all IsDoubt at.0 found found_doubts at.1 in
          subst (λ k. IsAmong k (map number (filter in_doubt (prepares log)))) (sym d.prepare ∙ at.2) (among_map number at.0.txn (filter in_doubt (prepares log)) (is_in_doubt_in at.0.txn d.doubts))

      pub same_numbers : map prepare_of found ≡ map number (filter in_doubt (prepares log))
      same_numbers = same_rising (map prepare_of found) (map number (filter in_doubt (prepares log))) found_rise rise to_log to_found

      by_entries : (es : List LogTxn) → AllByRecursion IsDoubt es → map (λ e. e.txn) es ≡ map (txn_at log) (map prepare_of es)
      by_entries [] h = refl
      by_entries (e ∷ es) h = (λ i. sym (its_txn e h.0) i ∷ by_entries es h.1 i)

      by_log : (ts : List ℕ) → AllByRecursion (λ t. in_doubt t ≡ true) ts → map (txn_at log) (map number ts) ≡ ts
      by_log [] h = refl
      by_log (t ∷ ts) h = (λ i. txn_is t log (some t h.0) i ∷ by_log ts h.1 i)

      pub picked_order : map (λ e. e.txn) found ≡ filter in_doubt (prepares log)
      picked_order =
          by_entries found found_doubts ∙ ap (map (txn_at log)) same_numbers
          ∙ by_log (filter in_doubt (prepares log)) (all_among (λ t. in_doubt t ≡ true) (filter in_doubt (prepares log)) (λ t a. (among_filter in_doubt t (prepares log) a).1))

      by_numbers : (es : List LogTxn) → map (λ e. doubt_at log e.prepare) es ≡ map (doubt_at log) (map prepare_of es)
      by_numbers [] = refl
      by_numbers (e ∷ es) = ap (λ ds. doubt_at log e.prepare ∷ ds) (by_numbers es)

      by_txns : (ts : List ℕ) → map (doubt_at log) (map number ts) ≡ map (λ t. doubt_at log (number t)) ts
      by_txns [] = refl
      by_txns (t ∷ ts) = ap (λ ds. doubt_at log (number t) ∷ ds) (by_txns ts)

      pub say_the_picked : (ds : List LoggedDoubt) → map (λ t. doubt_at log (prepare_number t log)) (filter in_doubt (prepares log)) ≡ map (λ d. Some d) ds
          → map (λ e. doubt_at log e.prepare) found ≡ map (λ d. Some d) ds
      say_the_picked ds told = by_numbers found ∙ ap (map (doubt_at log)) same_numbers ∙ by_txns (filter in_doubt (prepares log)) ∙ told

-- ---- all of those in doubt

module _ (log : List LogRecord) (once : PrepareOnce log) (running : (t : ℕ) → is_in_doubt t log ≡ true → IsUndecided log t) (txns : List LogTxn) (table : IsTable log txns) (found : List LogTxn)
    (moved : IsPermutation (filter is_doubtful txns) found) (order : IsNonDecreasingBy prepare_of found) where
  abbrev all_rise : Rises (map (λ t. prepare_number t log) (filter (λ t. is_in_doubt t log) (prepares log)))
  all_rise = rises_filter (λ t. prepare_number t log) (λ t. is_in_doubt t log) (prepares log) (once_rise log once).rise

  pub in_order : map (λ e. e.txn) found ≡ in_doubt_in log
  in_order = picked_order log (λ t. is_in_doubt t log) (λ t doubts. doubts) running (λ t doubts runs. doubts) all_rise txns table found moved order

  pub say_the_doubts : map (λ e. doubt_at log e.prepare) found ≡ map (λ d. Some d) (doubts_in log)
  say_the_doubts = say_the_picked log (λ t. is_in_doubt t log) (λ t doubts. doubts) running (λ t doubts runs. doubts) all_rise txns table found moved order (doubts_in log) (once_told log once)
