-- Those that a pass over kept records has an entry of are those that have not ended by them: so they are as many.
use Rattle.std.proofs.Common.{◌≡◌, ⊎_elim, inl, inr, ◌<◌, ℕ, suc, List, [], ◌∷◌, true, Option, None, Some, refl, sym, ap, subst, ◌∙◌, length, map, ◌+◌, arith}
use Rattle.std.specs.Prelude.{◌&&◌, ◌==◌, All, IfSome, IsTrue, is_some, nat_lt}
use Rattle.std.specs.List.{AllByRecursion}
use Rattle.std.specs.List.Sorted.{IsStrictlySortedBy}
use Rattle.std.specs.Ordering.{nat_cmp}
use Rattle.std.specs.Cmp.{nat_cmp_total}
use Rattle.std.specs.declared.cmp.Ordering.TheVariants.{Less}
use Rattle.std.specs.BTreeMap.{IsOrdered, get, values}
use Rattle.std.specs.Map.{keys_of, values_of}
use Rattle.std.proofs.lemmas.Bool.{lt-ltb}
use Rattle.std.proofs.lemmas.List.Elements.{All-from_recursion, recursion_from_All}
use Rattle.std.proofs.lemmas.Map.Entries.{length-values_of}
use Rattle.shore_types.specs.declared.layout.Geometry.{Geometry}
use Rattle.shore_types.specs.declared.layout.TheConstants.{MAX_TRANSACTIONS}
use Rattle.shore_model.specs.declared.log_records.LogRecord.{LogRecord}
use Rattle.shore_model.specs.declared.log_records.LogTxn.{LogTxn}
use Rattle.shore_model.specs.Logs.{IsListed, Lists, first_number, rise_above, undo_next_of}
use Rattle.laws_lives.proofs.Booleans.{and_true}
use Rattle.laws_checkpoints.specs.KeptLogs.{IsKeptUnended, kept_records_of}
use Rattle.laws_checkpoints.specs.KeptTables.{IsKeptEntry, IsKeptTable}
use Rattle.laws_checkpoints.specs.MeantBehind.{first_previous}
use Rattle.laws_checkpoints.proofs.Kept.{has_at}
use Rattle.laws_checkpoints.proofs.KeptTables.{get_all}
use Rattle.laws_checkpoints.proofs.Numbers.{last_low, some_filtered}
use Rattle.laws_checkpoints.proofs.Rising as risen
use Rattle.shore_analysis.specs.declared.kept_passes.KeptPass.{KeptPass}
use Rattle.shore_analysis.specs.KeptMeant.{IsKeptCrowded}
use Rattle.shore_analysis.specs.KeptPasses.{IsCutOffEntry, KnowsKept}
use Rattle.shore_analysis.specs.Padded.{padded}
use Rattle.shore_analysis.specs.Passes.{entry_of}
use Rattle.shore_analysis.proofs.Answered.{one_or_none}
use Rattle.shore_analysis.proofs.Counted.{Among, among_listed, listed_among}
use Rattle.shore_analysis.proofs.KeptFirsts.{runs_unended, unended_runs}
use Rattle.shore_analysis.proofs.KeptMeans.{in_doubt_padded, unanswered_padded}
use Rattle.shore_analysis.proofs.Listed.{all_found, below, entry_runs, found_among}
use Rattle.shore_analysis.proofs.Padding.{last_padded, prepare_padded, records_padded}
use Rattle.shore_analysis.proofs.Phases.{prepared_is}

some_of : (o : Option LogTxn) → is_some o ≡ true → (x : LogTxn) × (o ≡ Some x)
some_of None h = cc
some_of (Some x) h = (x, refl)

module _ (g : Geometry) (cut : ℕ) (kept : List LogRecord) (pass : KeptPass) (knows : KnowsKept g cut kept pass) where
  pub key_some : (t : ℕ) (e : LogTxn) → get nat_cmp pass.running t ≡ Some e → 0 < t
  key_some t e here = ⊎_elim
      (λ none. absurd (gone e (sym here ∙ ap (get nat_cmp pass.running) none ∙ knows.ends.nobody)))
      (λ one. one) (one_or_none t)
    where
      gone : (e : LogTxn) → ◌≡◌ {A = Option LogTxn} (Some e) None → ⊥
      gone e h = cc

  -- an entry is its key's
  pub entry_txn : (t : ℕ) (e : LogTxn) → get nat_cmp pass.running t ≡ Some e → e.txn ≡ t
  entry_txn t e here =
      let one = key_some t e here in
      ⊎_elim
      (λ whole. let entry = entry_runs t (padded cut kept) e (sym (knows.whole t one whole) ∙ here) in ap (λ (x : LogTxn). x.txn) entry.is)
      (λ some.
      let its : IsCutOffEntry cut kept t e = subst (λ o. IfSome o (IsCutOffEntry cut kept t)) here (knows.cut_off t one (λ whole. omega (arith, some, whole))) in
      its.txn)
      (one_or_none (first_previous (kept_records_of cut t kept)))

  pub listed_here : (t : ℕ) → is_some (get nat_cmp pass.running t) ≡ true → Lists (values pass.running) t
  unfolding Lists
  listed_here t here =
      let x = some_of (get nat_cmp pass.running t) here in
      found_among nat_cmp (λ e. e.1) (λ e. e.txn ≡ t) t pass.running.entries x.0 x.1 (λ e at is. ap (λ (y : LogTxn). y.txn) is ∙ entry_txn t x.0 x.1)

  abbrev AreKeyed : List (ℕ × LogTxn) → Type 0
  AreKeyed es = AllByRecursion (λ e. (0 < e.0) × (e.1.txn ≡ e.0) × IsKeptUnended cut kept e.1.txn) es

  values_rise : (t : ℕ) (es : List (ℕ × LogTxn)) → AllByRecursion (λ u. t < u) (keys_of es) → IsStrictlySortedBy nat_cmp (keys_of es) → AreKeyed es → IsTrue (rise_above t (values_of es))
  unfolding IsStrictlySortedBy
  values_rise t [] above sorted keyed = refl
  values_rise t (e ∷ es) above sorted keyed =
      let own = keyed.0.1 in
      let next : IsTrue (rise_above e.0 (values_of es)) = values_rise e.0 es (all_below (keys_of es) sorted.0) sorted.1 keyed.1 in
      ap (λ u. nat_lt t u && rise_above u (values_of es)) own ∙ ap (λ b. b && rise_above e.0 (values_of es)) (lt-ltb t e.0 above.0) ∙ next
    where
      all_below : (ks : List ℕ) → AllByRecursion (λ u. nat_cmp e.0 u ≡ Less) ks → AllByRecursion (λ u. e.0 < u) ks
      all_below [] h = tt
      all_below (k ∷ ks) h = (below e.0 k h.0, all_below ks h.1)

  above_none : (es : List (ℕ × LogTxn)) → AreKeyed es → AllByRecursion (λ u. 0 < u) (keys_of es)
  above_none [] h = tt
  above_none (e ∷ es) h = (h.0.0, above_none es h.1)

  unended_values : (es : List (ℕ × LogTxn)) → AreKeyed es → AllByRecursion (λ e. IsKeptUnended cut kept e.txn) (values_of es)
  unended_values [] h = tt
  unended_values (e ∷ es) h = (h.0.2, unended_values es h.1)

  module _ (ordered : IsOrdered nat_cmp pass.running) where
    are_keyed : (es : List (ℕ × LogTxn)) → AllByRecursion (λ e. get nat_cmp pass.running e.0 ≡ Some e.1) es → AreKeyed es
    are_keyed [] h = tt
    are_keyed (e ∷ es) h =
        let one = key_some e.0 e.1 h.0 in
        let own = entry_txn e.0 e.1 h.0 in
        let here : is_some (get nat_cmp pass.running e.0) ≡ true = ap is_some h.0 in (
          (one, own, subst (IsKeptUnended cut kept) (sym own) (runs_unended cut kept pass knows.ends e.0 one here)),
          are_keyed es h.1,
        )

    keyed : AreKeyed pass.running.entries
    keyed = are_keyed pass.running.entries (recursion_from_All (λ e. get nat_cmp pass.running e.0 ≡ Some e.1) pass.running.entries (all_found nat_cmp_total pass.running ordered))

    pub rising : IsTrue (rise_above 0 (values pass.running))
    rising = values_rise 0 pass.running.entries (above_none pass.running.entries keyed) ordered keyed

    -- ---- a table of them

    abbrev log : List LogRecord
    log = padded cut kept

    -- the entry with its numbers by the kept records
    abbrev exact : LogTxn → LogTxn
    exact e = entry_of e.txn log

    pub exact_entry : (t : ℕ) → IsKeptUnended cut kept t → IsKeptEntry cut kept (entry_of t log)
    exact_entry t u =
        let same = records_padded t u.is_one cut kept in
        record {
          unended = u;
          in_doubt = prepared_is t log ∙ in_doubt_padded t u.is_one cut kept;
          first = ap first_number same;
          last = last_padded t u.is_one cut kept;
          undo_next = ap undo_next_of (unanswered_padded t u.is_one cut kept);
          prepare = prepare_padded t u.is_one cut kept;
        }

    exact_entries : (es : List LogTxn) → AllByRecursion (λ e. IsKeptUnended cut kept e.txn) es → AllByRecursion (IsKeptEntry cut kept) (map exact es)
    exact_entries [] h = tt
    exact_entries (e ∷ es) h = (exact_entry e.txn h.0, exact_entries es h.1)

    exact_rise : (t : ℕ) (es : List LogTxn) → IsTrue (rise_above t es) → IsTrue (rise_above t (map exact es))
    exact_rise t [] h = h
    exact_rise t (e ∷ es) h =
        let both = and_true (nat_lt t e.txn) (rise_above e.txn es) h in
        ap (λ b. b && rise_above e.txn (map exact es)) both.0 ∙ exact_rise e.txn es both.1

    exact_among : (t : ℕ) (es : List LogTxn) → Among t es → Among t (map exact es)
    exact_among t [] h = h
    exact_among t (e ∷ es) (inl own) = inl own
    exact_among t (e ∷ es) (inr later) = inr (exact_among t es later)

    exact_length : (es : List LogTxn) → length (map exact es) ≡ length es
    exact_length [] = refl
    exact_length (e ∷ es) = ap suc (exact_length es)

    -- a table that lists each that has not ended
    pub lists_all : (txns : List LogTxn) → ((t : ℕ) → Among t (values pass.running) → Among t txns) → All (IsListed kept txns) kept
    lists_all txns listed = get_all (IsListed kept txns) kept (λ k r at one runs.
        let some = some_filtered r.txn (cut + 1) kept (has_at kept k r at) in
        let low = last_low (λ x. x.1.txn == r.txn) (cut + 1) kept some in
        let u : IsKeptUnended cut kept r.txn = record { is_one = one; known = omega (arith, low); not_over = runs } in
        among_listed r.txn txns (listed r.txn (listed_among r.txn (values pass.running) (listed_here r.txn (unended_runs cut kept pass knows.ends r.txn u)))))

    exact_table : IsKeptTable cut kept (map exact (values pass.running))
    exact_table = record {
      rising = exact_rise 0 (values pass.running) rising;
      each = All-from_recursion (IsKeptEntry cut kept) (map exact (values pass.running)) (exact_entries (values pass.running) (unended_values pass.running.entries keyed));
      every = lists_all (map exact (values pass.running)) (λ t among. exact_among t (values pass.running) among);
    }

    -- ---- how many there are

    pub too_many : MAX_TRANSACTIONS < length pass.running.entries → IsKeptCrowded cut kept
    too_many many =
        let count = length-values_of pass.running.entries in
        let same = exact_length (values pass.running) in
        (map exact (values pass.running), exact_table, omega (arith, many, count, same))

    pub as_many : IsKeptCrowded cut kept → MAX_TRANSACTIONS < length pass.running.entries
    as_many crowded =
        let le = risen.fewer (values pass.running) crowded.0 0 0 crowded.1.rising rising (inside crowded.0 (recursion_from_All (IsKeptEntry cut kept) crowded.0 crowded.1.each)) in
        let count = length-values_of pass.running.entries in
        let many = crowded.2 in
        omega (arith, le, count, many)
      where
        inside : (es : List LogTxn) → AllByRecursion (IsKeptEntry cut kept) es → AllByRecursion (λ e. risen.Among e.txn (values pass.running)) es
        inside [] h = tt
        inside (e ∷ es) h = (risen.listed_among e.txn (values pass.running) (listed_here e.txn (unended_runs cut kept pass knows.ends e.txn h.0.unended)), inside es h.1)
