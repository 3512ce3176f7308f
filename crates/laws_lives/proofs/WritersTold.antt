-- What a lawful log leaves: what is committed, overlaid by what its writers have written; and with no loser left, what it tells.
use Rattle.std.proofs.Common.{◌≡◌, ◌⊎◌, inl, inr, ⊎_elim, ℕ, List, [], ◌∷◌, ◌++◌, Bool, true, false, cond, Some, None, map, refl, sym, ap, subst, ◌∙◌}
use Rattle.std.specs.Prelude.{filter, ◌==◌, ◌&&◌, ◌||◌, not, unwrap_or}
use Rattle.std.specs.List.{AllByRecursion, filter_map, cons_option}
use Rattle.std.specs.FinMap.{get}
use Rattle.std.proofs.lemmas.Bool.{eqb-true, true≢false}
use Rattle.shore_types.specs.declared.ids.Rid.{Rid}
use Rattle.shore_model.specs.declared.log_records.LogRecord.{LogRecord}
use Rattle.shore_model.specs.declared.log_records.Payload.{Payload}
use Rattle.shore_model.specs.declared.log_records.Payload.TheVariants.{End}
use Rattle.shore_model.specs.Records.{Records, WriteSet, overlay, overlays}
use Rattle.shore_types.specs.Images.{Image}
use Rattle.shore_model.specs.Logs.{Lawful, MayFollow, MaySay, records_told, has, is_over, is_commit, is_end, is_prepare, is_rollback, is_in_doubt, is_undoable, prepare_of, in_doubt_in, logged_writes, image_of_record}
use Rattle.shore_model.proofs.Overlays.{get-overlay}
use Rattle.laws_lives.proofs.UndoEnds.{writers_in_doubt}
use Rattle.laws_lives.specs.LogTells.{records_committed}
use Rattle.laws_lives.specs.Views.{IsAmong}
use Rattle.laws_lives.proofs.Lists.{recursion-weaker}
use Rattle.laws_lives.specs.Undo.{HasNoLosers}
use Rattle.laws_lives.specs.Writers.{HasOneWriterAtMost, changes_id}
use Rattle.laws_lives.proofs.Writers.{one_writer_at_most, same_or_not, never_true, by_records}
use Rattle.laws_lives.proofs.OneMore.{has-not_this, has-not_its, writes_none}
use Rattle.laws_lives.proofs.Booleans.{or_none}

-- ---- write sets laid over one another, at one id

module _ (W : ℕ → WriteSet) (q : Rid) where
  abbrev AreApart : ℕ → List ℕ → Type 0
  AreApart t us = AllByRecursion (λ u. (u ≡ t) ⊎ (get (W u) q ≡ None)) us

  laid_none : (us : List ℕ) → AllByRecursion (λ u. get (W u) q ≡ None) us → (R : Records) → get (overlays R (map W us)) q ≡ get R q
  laid_none [] h R = refl
  laid_none (u ∷ us) h R = laid_none us h.1 (overlay R (W u)) ∙ get-overlay R (W u) q ∙ ap (λ o. unwrap_or o (get R q)) h.0

  module _ (t : ℕ) (image : Image) (wrote : get (W t) q ≡ Some image) where
    one_laid : (R : Records) (u : ℕ) → u ≡ t → get (overlay R (W u)) q ≡ image
    one_laid R u e = get-overlay R (W u) q ∙ ap (λ o. unwrap_or o (get R q)) (ap (λ v. get (W v) q) e ∙ wrote)

    stays_laid : (us : List ℕ) → AreApart t us → (R : Records) → get R q ≡ image → get (overlays R (map W us)) q ≡ image
    stays_laid [] h R e = e
    stays_laid (u ∷ us) h R e = stays_laid us h.1 (overlay R (W u)) (⊎_elim
        (λ own. one_laid R u own)
        (λ none. get-overlay R (W u) q ∙ ap (λ o. unwrap_or o (get R q)) none ∙ e)
        h.0)

    laid_once : (us : List ℕ) → AreApart t us → IsAmong t us → (R : Records) → get (overlays R (map W us)) q ≡ image
    laid_once [] h among R = absurd among
    laid_once (u ∷ us) h (inl here) R = stays_laid us h.1 (overlay R (W u)) (one_laid R u here)
    laid_once (u ∷ us) h (inr later) R = laid_once us h.1 later (overlay R (W u))

-- ---- who is in doubt

filtered : (p : ℕ → Bool) (us : List ℕ) → AllByRecursion (λ u. p u ≡ true) (filter p us)
filtered p [] = tt
filtered p (u ∷ us) =
    elim (p u) as (λ b. p u ≡ b → AllByRecursion (λ v. p v ≡ true) (cond b (u ∷ filter p us) (filter p us))) [
      | true ↦ λ e. (e, filtered p us)
      | false ↦ λ e. filtered p us
    ] refl

module _ (t : ℕ) where
  pub among_filtered : (p : ℕ → Bool) → p t ≡ true → (us : List ℕ) → IsAmong t us → IsAmong t (filter p us)
  among_filtered p passes [] h = absurd h
  among_filtered p passes (u ∷ us) h =
      elim (p u) as (λ b. p u ≡ b → IsAmong t (cond b (u ∷ filter p us) (filter p us))) [
        | true ↦ λ e. ⊎_elim (λ here. inl here) (λ later. inr (among_filtered p passes us later)) h
        | false ↦ λ e. ⊎_elim (λ here. absurd (true≢false (sym passes ∙ ap p (sym here) ∙ e))) (λ later. among_filtered p passes us later) h
      ] refl

  one_prepared : (b c d : Bool) (u : ℕ) (us : List ℕ) → (b ≡ true → u ≡ t) → ((b && c) || d) ≡ true → (d ≡ true → IsAmong t us) → IsAmong t (cons_option (cond c (Some u) None) us)
  one_prepared true true d u us f h rest = inl (f refl)
  one_prepared true false d u us f h rest = rest h
  one_prepared false true d u us f h rest = inr (rest h)
  one_prepared false false d u us f h rest = rest h

  pub among_prepared : (log : List LogRecord) → has is_prepare t log ≡ true → IsAmong t (filter_map prepare_of log)
  among_prepared [] h = cc
  among_prepared (r ∷ log) h =
      one_prepared (r.txn == t) (is_prepare r.payload) (has is_prepare t log) r.txn (filter_map prepare_of log) (eqb-true r.txn t) h (among_prepared log)

pub in_doubt_parts : (p c r : Bool) → (p && not c && not r) ≡ true → (p ≡ true) × (c ≡ false) × (r ≡ false)
in_doubt_parts true false false h = (refl, refl, refl)
in_doubt_parts true false true h = cc
in_doubt_parts true true r h = cc
in_doubt_parts false c r h = cc

-- ---- in doubt is not ended

abbrev EndsUndone : List LogRecord → Type 0
EndsUndone log = (t : ℕ) → has is_end t log ≡ true → is_undoable t log ≡ true

only_end : (log : List LogRecord) (r : LogRecord) (p : Payload) → r.payload ≡ p → has is_end r.txn log ≡ false → has is_end r.txn (log ++ r ∷ []) ≡ true
    → MaySay log r.txn p → is_undoable r.txn (log ++ r ∷ []) ≡ true
only_end log r End e none ends says =
    ap (λ b. not b || has is_rollback r.txn (log ++ r ∷ [])) (has-not_this log r is_prepare r.txn (ap is_prepare e))
    ∙ ap (λ b. not (has is_prepare r.txn log) || b) (has-not_this log r is_rollback r.txn (ap is_rollback e)) ∙ says.0
only_end log r _ e none ends says = absurd (true≢false (sym ends ∙ has-not_this log r is_end r.txn (ap is_end e) ∙ none))

end_next : (log : List LogRecord) (r : LogRecord) → MayFollow log r → EndsUndone log → EndsUndone (log ++ r ∷ [])
end_next log r follows h t ends = ⊎_elim
    (λ own.
    let none = (or_none (has is_commit r.txn log) (has is_end r.txn log) follows.not_over).1 in
    subst (λ u. is_undoable u (log ++ r ∷ []) ≡ true) own
    (only_end log r r.payload refl none (ap (λ u. has is_end u (log ++ r ∷ [])) own ∙ ends) follows.says))
    (λ ne.
    ap (λ b. not b || has is_rollback t (log ++ r ∷ [])) (has-not_its log r is_prepare t ne)
    ∙ ap (λ b. not (has is_prepare t log) || b) (has-not_its log r is_rollback t ne)
    ∙ h t (sym (has-not_its log r is_end t ne) ∙ ends))
    (same_or_not r.txn t)

doubt_undoes_none : (p c r : Bool) → (p && not c && not r) ≡ true → (not p || r) ≡ true → ⊥
doubt_undoes_none true false false h k = true≢false (sym k)
doubt_undoes_none true false true h k = true≢false (sym h)
doubt_undoes_none true true r h k = true≢false (sym h)
doubt_undoes_none false c r h k = true≢false (sym h)

module _ (log : List LogRecord) (lawful : Lawful log) where
  ends_undone : EndsUndone log
  ends_undone = by_records EndsUndone (λ t h. cc) (λ xs r follows h. end_next xs r follows h) log lawful

  pub doubt_not_over : (t : ℕ) → is_in_doubt t log ≡ true → is_over t log ≡ false
  doubt_not_over t doubt =
      let parts = in_doubt_parts (has is_prepare t log) (has is_commit t log) (has is_rollback t log) doubt in
      let no_end = never_true (has is_end t log) (λ ends. doubt_undoes_none (has is_prepare t log) (has is_commit t log) (has is_rollback t log) doubt (ends_undone t ends)) in
      ap (λ b. b || has is_end t log) parts.1 ∙ no_end

  module _ (q : Rid) (us : List ℕ) (running : AllByRecursion (λ u. is_over u log ≡ false) us)
      (all : (t : ℕ) → has (changes_id q) t log ≡ true → is_over t log ≡ false → IsAmong t us) where
    abbrev W : ℕ → WriteSet
    W = logged_writes log

    by_writer : HasOneWriterAtMost log q → image_of_record log q ≡ get (overlays (records_committed log) (map W us)) q
    by_writer (inl f) =
        f.image ∙ sym (laid_none W q us
        (recursion-weaker (λ u. is_over u log ≡ false) (λ u. get (W u) q ≡ None)
        (λ u runs. writes_none log u q (never_true (has (changes_id q) u log) (λ h. true≢false (sym (f.over u h) ∙ runs)))) us running)
        (records_committed log))
    by_writer (inr k) =
        let t = k.0 in
        let h = k.1 in
        sym (laid_once W q t (image_of_record log q) h.written us
        (recursion-weaker (λ u. is_over u log ≡ false) (λ u. (u ≡ t) ⊎ (get (W u) q ≡ None))
        (λ u runs. ⊎_elim (λ same. inl same)
        (λ ne. inr (writes_none log u q (never_true (has (changes_id q) u log) (λ c. true≢false (sym (h.others u ne c) ∙ runs)))))
        (same_or_not u t))
        us running)
        (all t h.changed h.not_over)
        (records_committed log))

    pub leaves_running : image_of_record log q ≡ get (overlays (records_committed log) (map W us)) q
    leaves_running = by_writer (one_writer_at_most log lawful q)

  pub leaves_told : HasNoLosers log → (q : Rid) → image_of_record log q ≡ get (records_told log) q
  leaves_told quiet q =
      leaves_running q (in_doubt_in log)
      (recursion-weaker (λ u. is_in_doubt u log ≡ true) (λ u. is_over u log ≡ false) doubt_not_over (in_doubt_in log) (filtered (λ u. is_in_doubt u log) (filter_map prepare_of log)))
      (λ t changed runs.
      let doubt = writers_in_doubt log lawful quiet t q changed runs in
      among_filtered t (λ u. is_in_doubt u log) doubt (filter_map prepare_of log)
      (among_prepared t log (in_doubt_parts (has is_prepare t log) (has is_commit t log) (has is_rollback t log) doubt).0))
