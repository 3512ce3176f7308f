-- The entries of the losers of a log, with one more record of undo.
use Rattle.std.proofs.Common.{◌≡◌, ◌≢◌, inl, inr, ⊎_elim, ◌+◌, ◌<◌, ℕ, List, [], ◌∷◌, ◌++◌, Bool, true, false, cond, map, refl, sym, ap, subst, ◌∙◌, length, drop, arith}
use Rattle.std.specs.Prelude.{filter, ◌==◌, not}
use Rattle.std.specs.List.{AllByRecursion}
use Rattle.std.proofs.lemmas.Bool.{cases_Bool, true≢false, eqb-true, eqb-false}
use Rattle.std.proofs.lemmas.List.Elements.{recursion_from_All}
use Rattle.shore_types.specs.Images.{Image}
use Rattle.shore_types.specs.declared.ids.Rid.{Rid}
use Rattle.shore_model.specs.declared.unanswered_changes.UnansweredChange.{UnansweredChange}
use Rattle.shore_model.specs.declared.log_records.LogRecord.{LogRecord}
use Rattle.shore_model.specs.declared.log_records.LogTxn.{LogTxn}
use Rattle.shore_model.specs.declared.log_records.Payload.TheVariants.{Compensation}
use Rattle.shore_model.specs.Logs.{IsEntry, IsTable, is_over, is_commit, is_end, is_prepare, is_prepared, is_rollback, first_number, last_of, answered_by, unanswered, undo_next_of}
use Rattle.laws_lives.specs.Views.{IsAmong}
use Rattle.laws_lives.proofs.EndedTxns.{over_now, over_other, over_same}
use Rattle.laws_lives.proofs.UnansweredChanges.{unanswered_other, unanswered_own}
use Rattle.laws_lives.specs.Undo.{IsLoser, undo_payload, undo_record}
use Rattle.laws_lives.proofs.Numbers.{last_own, newest_other}
use Rattle.laws_lives.proofs.OneMore.{has-not_this}
use Rattle.laws_lives.proofs.Writers.{same_or_not}
use Rattle.shore_analysis.proofs.Counted.{Among, loser_listed}
use Rattle.shore_analysis.proofs.Phases.{doubt-by, doubt_other}
use Rattle.shore_analysis.specs.Losers.{AreEntriesOfLosers, IsEntryOfLoser, IsNextToUndo, NeedNotWait, is_another, is_of_loser, with_numbers}

-- ---- the table of a log

module _ (log : List LogRecord) (txns : List LogTxn) (table : IsTable log txns) where
  among_map : (t : ℕ) (es : List LogTxn) → Among t es → IsAmong t (map (λ e. e.txn) es)
  among_map t [] h = h
  among_map t (e ∷ es) (inl own) = inl own
  among_map t (e ∷ es) (inr later) = inr (among_map t es later)

  of_one : (e : LogTxn) → IsEntry log e → is_of_loser e ≡ true → IsEntryOfLoser log e
  of_one e h loses = record {
    loser = record { is_one = h.0.is_one; known = h.0.known; not_over = h.0.not_over; not_in_doubt = sym h.0.in_doubt ∙ not_true (is_prepared e.state) loses };
    last = h.1.last;
    undo_next = h.1.undo_next;
  }
    where
      not_true : (b : Bool) → not b ≡ true → b ≡ false
      not_true true e = cc
      not_true false e = refl

  entries : (es : List LogTxn) → AllByRecursion (IsEntry log) es → AllByRecursion (IsEntryOfLoser log) (filter is_of_loser es)
  entries [] h = tt
  entries (e ∷ es) h = ⊎_elim
      (λ yes. subst (λ b. AllByRecursion (IsEntryOfLoser log) (cond b (e ∷ filter is_of_loser es) (filter is_of_loser es))) (sym yes) (of_one e h.0 yes, entries es h.1))
      (λ no. subst (λ b. AllByRecursion (IsEntryOfLoser log) (cond b (e ∷ filter is_of_loser es) (filter is_of_loser es))) (sym no) (entries es h.1))
      (cases_Bool (is_of_loser e))

  pub of_table : AreEntriesOfLosers log (filter is_of_loser txns)
  of_table = record {
    each = entries txns (recursion_from_All (IsEntry log) txns table.each);
    every = λ t loser. among_map t (filter is_of_loser txns) (loser_listed log txns table t loser);
  }

-- ---- one record more

module _ (log : List LogRecord) (r : LogRecord) (u : ℕ) (ne : r.txn ≢ u) where
  last_other : last_of u (log ++ r ∷ []) ≡ last_of u log
  last_other = ap first_number (newest_other log r u ne)

  stays_loser : IsLoser log u → IsLoser (log ++ r ∷ []) u
  stays_loser h = record {
    is_one = h.is_one;
    known = subst (λ n. 0 < n) (sym last_other) h.known;
    not_over = over_other log r u ne ∙ h.not_over;
    not_in_doubt = doubt_other log r u ne ∙ h.not_in_doubt;
  }

  pub was_loser : IsLoser (log ++ r ∷ []) u → IsLoser log u
  was_loser h = record {
    is_one = h.is_one;
    known = subst (λ n. 0 < n) last_other h.known;
    not_over = sym (over_other log r u ne) ∙ h.not_over;
    not_in_doubt = sym (doubt_other log r u ne) ∙ h.not_in_doubt;
  }

other_entry : (log : List LogRecord) (r : LogRecord) (e : LogTxn) → r.txn ≢ e.txn → IsEntryOfLoser log e → IsEntryOfLoser (log ++ r ∷ []) e
other_entry log r e ne h = record {
  loser = stays_loser log r e.txn ne h.loser;
  last = h.last ∙ sym (last_other log r e.txn ne);
  undo_next = h.undo_next ∙ ap undo_next_of (sym (unanswered_other e.txn log r ne));
}

-- ---- a record of undo

module _ (log : List LogRecord) (t : ℕ) (loser : IsLoser log t) where
  abbrev next : LogRecord
  next = undo_record log t

  abbrev after : List LogRecord
  after = log ++ next ∷ []

  fewer : (u : ℕ) → IsLoser after u → IsLoser log u
  fewer u h = ⊎_elim (λ own. subst (IsLoser log) own loser) (λ ne. was_loser log next u ne h) (same_or_not t u)

  another : (e : LogTxn) → (e.txn == t) ≡ false → IsEntryOfLoser log e → IsEntryOfLoser after e
  another e off h = other_entry log next e (λ own. eqb-false e.txn t off (sym own)) h

  -- ---- a Compensation

  module _ (c : UnansweredChange) (cs : List UnansweredChange) (newest : unanswered t log ≡ c ∷ cs) where
    is : next.payload ≡ Compensation c.id c.before (undo_next_of cs)
    is = ap undo_payload newest

    still_loser : IsLoser after t
    still_loser =
        let number = last_own log next in
        record {
          is_one = loser.is_one;
          known = omega (arith, number);
          not_over = over_same log next (ap is_commit is) (ap is_end is) t ∙ loser.not_over;
          not_in_doubt = doubt-by log after t (has-not_this log next is_prepare t (ap is_prepare is)) (has-not_this log next is_commit t (ap is_commit is)) (has-not_this log next is_rollback t (ap is_rollback is)) ∙ loser.not_in_doubt;
        }

    left_over : unanswered t after ≡ cs
    left_over = unanswered_own t log next refl ∙ ap (λ p. answered_by (1 + length log) p (unanswered t log)) is ∙ ap (drop 1) newest

    own_entry : (e : LogTxn) → e.txn ≡ t → e.last ≡ 1 + length log → e.undo_next ≡ undo_next_of cs → IsEntryOfLoser after e
    own_entry e own last undo_next = record {
      loser = subst (IsLoser after) (sym own) still_loser;
      last = last ∙ sym (last_own log next) ∙ ap (λ u. last_of u after) (sym own);
      undo_next = undo_next ∙ ap undo_next_of (sym left_over) ∙ ap (λ u. undo_next_of (unanswered u after)) (sym own);
    }

    module _ (n u : ℕ) (last : n ≡ 1 + length log) (undo_next : u ≡ undo_next_of cs) where
      each_renumbered : (es : List LogTxn) → AllByRecursion (IsEntryOfLoser log) es → AllByRecursion (IsEntryOfLoser after) (map (with_numbers t n u) es)
      each_renumbered [] h = tt
      each_renumbered (e ∷ es) h = (
        ⊎_elim
            (λ own. subst (λ b. IsEntryOfLoser after (cond b (record e { last = n; undo_next = u }) e)) (sym own) (own_entry (record e { last = n; undo_next = u }) (eqb-true e.txn t own) last undo_next))
            (λ off. subst (λ b. IsEntryOfLoser after (cond b (record e { last = n; undo_next = u }) e)) (sym off) (another e off h.0))
            (cases_Bool (e.txn == t)),
        each_renumbered es h.1,
      )

  txn_renumbered : (n u : ℕ) (e : LogTxn) (b : Bool) → (cond b (record e { last = n; undo_next = u }) e).txn ≡ e.txn
  txn_renumbered n u e true = refl
  txn_renumbered n u e false = refl

  txns_renumbered : (n u : ℕ) (es : List LogTxn) → map (λ e. e.txn) (map (with_numbers t n u) es) ≡ map (λ e. e.txn) es
  txns_renumbered n u [] = refl
  txns_renumbered n u (e ∷ es) =
      ap (λ x. x ∷ map (λ e. e.txn) (map (with_numbers t n u) es)) (txn_renumbered n u e (e.txn == t)) ∙ ap (λ xs. e.txn ∷ xs) (txns_renumbered n u es)

  pub renumbered : (es : List LogTxn) → AreEntriesOfLosers log es → (id : Rid) (image : Image) (u : ℕ) → next.payload ≡ Compensation id image u → (n : ℕ) → n ≡ length log + 1
      → AreEntriesOfLosers after (map (with_numbers t n u) es)
  renumbered es h id image u says n last = by_newest (unanswered t log) refl says
    where
      by_newest : (us : List UnansweredChange) → unanswered t log ≡ us → undo_payload us ≡ Compensation id image u → AreEntriesOfLosers after (map (with_numbers t n u) es)
      by_newest [] e p = cc
      by_newest (c ∷ cs) e p =
          let named : u ≡ undo_next_of cs = cc in
          record {
            each = each_renumbered c cs e n u (omega (arith, last)) named es h.each;
            every = λ v loses. subst (IsAmong v) (sym (txns_renumbered n u es)) (h.every v (fewer v loses));
          }

  -- ---- an End

  each_left : (es : List LogTxn) → AllByRecursion (IsEntryOfLoser log) es → AllByRecursion (IsEntryOfLoser after) (filter (is_another t) es)
  each_left [] h = tt
  each_left (e ∷ es) h = ⊎_elim
      (λ own. subst (λ b. AllByRecursion (IsEntryOfLoser after) (cond (not b) (e ∷ filter (is_another t) es) (filter (is_another t) es))) (sym own) (each_left es h.1))
      (λ off. subst (λ b. AllByRecursion (IsEntryOfLoser after) (cond (not b) (e ∷ filter (is_another t) es) (filter (is_another t) es))) (sym off) (another e off h.0, each_left es h.1))
      (cases_Bool (e.txn == t))

  among_left : (u : ℕ) → (t ≢ u) → (es : List LogTxn) → IsAmong u (map (λ e. e.txn) es) → IsAmong u (map (λ e. e.txn) (filter (is_another t) es))
  among_left u ne [] h = h
  among_left u ne (e ∷ es) h = ⊎_elim
      (λ own. subst (λ b. IsAmong u (map (λ e. e.txn) (cond (not b) (e ∷ filter (is_another t) es) (filter (is_another t) es)))) (sym own)
      (⊎_elim (λ this. absurd (ne (sym (eqb-true e.txn t own) ∙ this))) (λ later. among_left u ne es later) h))
      (λ off. subst (λ b. IsAmong u (map (λ e. e.txn) (cond (not b) (e ∷ filter (is_another t) es) (filter (is_another t) es)))) (sym off)
      (⊎_elim (λ this. inl this) (λ later. inr (among_left u ne es later)) h))
      (cases_Bool (e.txn == t))

  pub left : (es : List LogTxn) → AreEntriesOfLosers log es → ((id : Rid) (image : Image) (u : ℕ) → next.payload ≡ Compensation id image u → ⊥) → AreEntriesOfLosers after (filter (is_another t) es)
  left es h other = record {
    each = each_left es h.each;
    every = λ u loses. among_left u (λ own. absurd (true≢false (sym over ∙ ap (λ v. is_over v after) own ∙ loses.not_over))) es (h.every u (fewer u loses));
  }
    where
      is_the_end : (us : List UnansweredChange) → ((id : Rid) (image : Image) (u : ℕ) → undo_payload us ≡ Compensation id image u → ⊥) → is_end (undo_payload us) ≡ true
      is_the_end [] other = refl
      is_the_end (c ∷ cs) other = absurd (other c.id c.before (undo_next_of cs) refl)

      over : is_over t after ≡ true
      over = over_now log next (inr (is_the_end (unanswered t log) other))

  -- ---- whose turn is next

  -- behind a last Compensation nobody else's
  pub end_follows : (u : ℕ) → IsNextToUndo log t → 0 < undo_next_of (unanswered t log) → unanswered t after ≡ [] → IsLoser after u → IsNextToUndo after u → u ≡ t
  end_follows u turn some none later next_turn = ⊎_elim (λ own. sym own) (λ ne. absurd (by_newest (unanswered t log) refl ne)) (same_or_not t u)
    where
      -- who had something to be undone then has it still
      not_before : (t ≢ u) → NeedNotWait (undo_next_of (unanswered u after)) 0 → NeedNotWait (undo_next_of (unanswered t log)) (undo_next_of (unanswered u log)) → ⊥
      not_before ne (inr a) b = let least = a.0 in absurd (omega (arith, least))
      not_before ne (inl zero) (inl gone) = absurd (omega (arith, gone, some))
      not_before ne (inl zero) (inr b) =
          let same : undo_next_of (unanswered u after) ≡ undo_next_of (unanswered u log) = ap undo_next_of (unanswered_other u log next ne) in
          let least = b.0 in
          absurd (omega (arith, same, zero, least))

      by_newest : (us : List UnansweredChange) → unanswered t log ≡ us → (t ≢ u) → ⊥
      by_newest [] is ne = let gone = ap undo_next_of is in absurd (omega (arith, gone, some))
      by_newest (c ∷ cs) is ne =
          not_before ne
          (subst (λ us. NeedNotWait (undo_next_of (unanswered u after)) (undo_next_of us)) none (next_turn t (still_loser c cs is)))
          (turn u (was_loser log next u ne later))
