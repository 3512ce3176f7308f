-- Of a loser, and of one in doubt, all records are kept: so the Changes that undo answers are among them.
use Rattle.std.proofs.Common.{◌≡◌, ⊎_elim, inl, inr, ◌+◌, ◌-◌, ◌<◌, ◌≤◌, ℕ, List, [], ◌∷◌, ◌++◌, Some, false, refl, sym, ap, subst, ◌∙◌, length, take, drop, arith}
use Rattle.std.specs.Prelude.{reverse, slice_get}
use Rattle.std.proofs.lemmas.Bool.{true≢false}
use Rattle.shore_types.specs.declared.layout.Geometry.{Geometry}
use Rattle.shore_model.specs.declared.unanswered_changes.UnansweredChange.{UnansweredChange}
use Rattle.shore_model.specs.declared.log_records.LogRecord.{LogRecord}
use Rattle.shore_model.specs.Logs.{first_number, unanswered, unanswered_in, undo_next_of}
use Rattle.laws_lives.specs.Undo.{IsLoser, IsUndoneTo, undo_record}
use Rattle.laws_lives.proofs.Lists.{length-take_within}
use Rattle.laws_lives.proofs.Writers.{never_true, same_or_not}
use Rattle.laws_checkpoints.specs.KeptLogs.{IsKeptUnended, has_record, kept_records_of, kept_unanswered}
use Rattle.laws_checkpoints.specs.MeantBehind.{first_previous}
use Rattle.laws_checkpoints.proofs.Kept.{has_at, over_none_back, records_kept}
use Rattle.laws_checkpoints.proofs.Lists.{get-drop, take-drop}
use Rattle.shore_analysis.specs.KeptMeant.{AreMeantKept, IsWholeIn}
use Rattle.shore_analysis.specs.Losers.{CutsOffEnded}
use Rattle.shore_analysis.specs.Meant.{AreMeantOf, IsMeant}
use Rattle.shore_analysis.specs.Padded.{padded}
use Rattle.shore_analysis.proofs.Counted.{cases_lt}
use Rattle.shore_analysis.proofs.Entries.{was_loser}
use Rattle.shore_analysis.proofs.Found.{stands}
use Rattle.shore_analysis.proofs.KeptEnded.{first_by, unended_whole}
use Rattle.shore_analysis.proofs.KeptMeans.{meant_whole, unanswered_padded}
use Rattle.shore_analysis.proofs.MeantLogs.{get_in_take, take_in_take}
use Rattle.shore_analysis.proofs.Padding.{behind_cut, get_padded, take_padded}

-- who is a loser after turns of undo was one before
loser_before : (found : List LogRecord) (ts : List ℕ) (log : List LogRecord) → IsUndoneTo found ts log → (t : ℕ) → IsLoser log t → IsLoser found t
loser_before found [] log undone t h = subst (λ xs. IsLoser xs t) undone h
loser_before found (v ∷ ts) log undone t h =
    let later = loser_before (found ++ undo_record found v ∷ []) ts log undone.1 t h in
    ⊎_elim (λ own. subst (IsLoser found) own undone.0) (λ ne. was_loser found (undo_record found v) t ne later) (same_or_not v t)

module _ (g : Geometry) (cut : ℕ) (kept : List LogRecord) (all : AreMeantKept g cut kept) (t : ℕ) where
  -- of one that is whole in what is kept each record means what it has to in a whole log
  pub meant_of_whole : 0 < t → IsWholeIn cut kept t → AreMeantOf g t (padded cut kept)
  meant_of_whole one whole n r at own =
      let some : 0 < r.txn = subst (λ u. 0 < u) (sym own) one in
      let le = behind_cut cut n kept r at some in
      let there : cut + (n - cut) ≡ n = omega (arith, le) in
      let here : slice_get kept (n - cut) ≡ Some r = sym (get_padded cut (n - cut) kept) ∙ ap (slice_get (padded cut kept)) there ∙ at in
      let front : take n (padded cut kept) ≡ padded cut (take (n - cut) kept) = ap (λ k. take k (padded cut kept)) (sym there) ∙ take_padded cut (n - cut) kept in
      let its : IsWholeIn cut (take (n - cut) kept ++ r ∷ []) r.txn = sym (first_by cut (n - cut) kept r here) ∙ ap (λ u. first_previous (kept_records_of cut u kept)) own ∙ whole in
      subst (λ xs. IsMeant g xs r) (sym front) (meant_whole g cut (take (n - cut) kept) r some its (all (n - cut) r here).now)

  -- so it is of a loser after turns of undo, if whoever has a record that is cut off has ended
  module _ (whole : List LogRecord) (ended : CutsOffEnded cut whole) (is_kept : kept ≡ drop cut whole) (ts : List ℕ) (log : List LogRecord) (undone : IsUndoneTo whole ts log) (loser : IsLoser log t) where
    abbrev found_loser : IsLoser whole t
    found_loser = loser_before whole ts log undone t loser

    pub none_cut_off : has_record t (take cut whole) ≡ false
    none_cut_off = never_true (has_record t (take cut whole)) (λ some. true≢false (sym (ended.1 t loser.is_one some) ∙ found_loser.not_over))

    pub loser_meant : AreMeantOf g t (padded cut kept)
    loser_meant = meant_of_whole loser.is_one (unended_whole g cut kept all t (subst (λ xs. IsKeptUnended cut xs t) (sym is_kept) (record {
      is_one = loser.is_one;
      known = subst (λ es. 0 < first_number (reverse es)) (records_kept t whole cut ended.0 none_cut_off) found_loser.known;
      not_over = over_none_back t whole cut ended.0 found_loser.not_over;
    })))

-- ---- the Change that is undone next

module _ (cut : ℕ) (kept whole : List LogRecord) (within : cut ≤ length whole) (is_kept : kept ≡ drop cut whole) where
  -- a record that is not cut off
  pub get_whole : (n : ℕ) → cut < n → slice_get whole (n - 1) ≡ slice_get kept (n - (cut + 1))
  get_whole n lt =
      let place : n - 1 ≡ cut + (n - (cut + 1)) = omega (arith, lt) in
      ap (slice_get whole) place ∙ sym (get-drop whole cut (n - (cut + 1))) ∙ ap (λ xs. slice_get xs (n - (cut + 1))) (sym is_kept)

  module _ (t : ℕ) (one : 0 < t) (none : has_record t (take cut whole) ≡ false) where
    -- what is left to be undone before a place is the same in the whole log
    pub unanswered_front : (n : ℕ) → cut ≤ n → n ≤ length whole → unanswered t (take n (padded cut kept)) ≡ unanswered t (take n whole)
    unanswered_front n le most =
        let there : cut + (n - cut) ≡ n = omega (arith, le) in
        let long = length-take_within n whole most in
        let none_there : has_record t (take cut (take n whole)) ≡ false = ap (has_record t) (take_in_take whole n cut le) ∙ none in
        ap (λ k. unanswered t (take k (padded cut kept))) (sym there) ∙ ap (unanswered t) (take_padded cut (n - cut) kept) ∙ unanswered_padded t one cut (take (n - cut) kept)
        ∙ ap (λ xs. kept_unanswered cut t (take (n - cut) xs)) is_kept ∙ ap (kept_unanswered cut t) (take-drop whole cut (n - cut) ∙ ap (λ k. drop cut (take k whole)) there)
        ∙ ap (λ es. unanswered_in (reverse es)) (sym (records_kept t (take n whole) cut (omega (arith, long, le)) none_there))

    module _ (ts : List ℕ) (log : List LogRecord) (undone : IsUndoneTo whole ts log) (change : ℕ) (is : change ≡ undo_next_of (unanswered t log)) where
      pub change_behind : 0 < change → cut < change
      change_behind some = by (unanswered t log) refl
        where
          by : (us : List UnansweredChange) → unanswered t log ≡ us → cut < change
          by [] e = let gone : change ≡ 0 = is ∙ ap undo_next_of e in absurd (omega (arith, gone, some))
          by (c ∷ cs) e =
              let s = stands whole ts log undone t change is c cs e in
              let cut_off : change - 1 < cut → ⊥ =
              λ lt. true≢false (sym (has_at (take cut whole) (change - 1) s.at.found (get_in_take whole cut (change - 1) lt ∙ s.here)) ∙ ap (λ u. has_record u (take cut whole)) s.at.own ∙ none) in
              elim (cases_lt (change - 1) cut) [
                | inl less ↦ absurd (cut_off less)
                | inr (inl same) ↦ omega (arith, same, some)
                | inr (inr more) ↦ omega (arith, more, some)
              ]

      pub change_own : (r : LogRecord) → slice_get whole (change - 1) ≡ Some r → 0 < change → r.txn ≡ t
      change_own r here some = by (unanswered t log) refl
        where
          by : (us : List UnansweredChange) → unanswered t log ≡ us → r.txn ≡ t
          by [] e = let gone : change ≡ 0 = is ∙ ap undo_next_of e in absurd (omega (arith, gone, some))
          by (c ∷ cs) e =
              let s = stands whole ts log undone t change is c cs e in
              let there = s.here in
              let same : s.at.found ≡ r = cc in
              ap (λ (x : LogRecord). x.txn) (sym same) ∙ s.at.own
