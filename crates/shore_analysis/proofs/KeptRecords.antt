-- The kept records of a transaction, with one record more, and what the first of them names.
use Rattle.std.proofs.Common.{◌≡◌, ◌≢◌, ⊎_elim, ◌⊎◌, inl, inr, ◌+◌, ◌<◌, ℕ, List, [], ◌∷◌, ◌++◌, cond, refl, sym, ap, ◌∙◌, length, append-nil, arith}
use Rattle.std.specs.Prelude.{◌==◌, filter, reverse}
use Rattle.std.specs.List.{enumerate_from}
use Rattle.std.proofs.lemmas.Bool.{eq-eqb, ne_eqb}
use Rattle.std.proofs.lemmas.List.Elements.{filter-append}
use Rattle.shore_model.specs.declared.log_records.LogRecord.{LogRecord}
use Rattle.shore_model.specs.Logs.{first_number, first_of}
use Rattle.laws_checkpoints.specs.KeptLogs.{kept_last_of, kept_records_of}
use Rattle.laws_checkpoints.specs.MeantBehind.{first_previous}
use Rattle.laws_checkpoints.proofs.Lists.{enumerate-append}
use Rattle.laws_checkpoints.proofs.Numbers.{first_low, last_low}
use Rattle.shore_analysis.specs.KeptMeant.{IsWholeIn}
use Rattle.shore_analysis.specs.Padded.{padded}
use Rattle.shore_analysis.proofs.Padding.{records_padded}

pub empty_or : {A : Type 0} (es : List A) → (es ≡ []) ⊎ (es ≡ [] → ⊥)
empty_or [] = inl refl
empty_or (e ∷ es) = inr (λ h. cc)

module _ (cut : ℕ) (before : List LogRecord) (r : LogRecord) where
  abbrev n : ℕ
  n = cut + 1 + length before

  abbrev after : List LogRecord
  after = before ++ r ∷ []

  pub records-push : (t : ℕ) → kept_records_of cut t after ≡ kept_records_of cut t before ++ cond (r.txn == t) ((n, r) ∷ []) []
  records-push t =
      ap (filter (λ x. x.1.txn == t)) (enumerate-append (cut + 1) before (r ∷ []))
      ∙ filter-append (λ x. x.1.txn == t) (enumerate_from (cut + 1) before) ((n, r) ∷ [])

  pub records-other : (t : ℕ) → r.txn ≢ t → kept_records_of cut t after ≡ kept_records_of cut t before
  records-other t ne =
      records-push t ∙ ap (λ b. kept_records_of cut t before ++ cond b ((n, r) ∷ []) []) (ne_eqb r.txn t ne) ∙ append-nil (kept_records_of cut t before)

  pub records-own : kept_records_of cut r.txn after ≡ kept_records_of cut r.txn before ++ (n, r) ∷ []
  records-own = records-push r.txn ∙ ap (λ b. kept_records_of cut r.txn before ++ cond b ((n, r) ∷ []) []) (eq-eqb r.txn r.txn refl)

  -- what the first names
  pub first-first : kept_records_of cut r.txn before ≡ [] → first_previous (kept_records_of cut r.txn after) ≡ r.previous
  first-first none = ap first_previous (records-own ∙ ap (λ es. es ++ (n, r) ∷ []) none)

  pub first-later : (kept_records_of cut r.txn before ≡ [] → ⊥) → first_previous (kept_records_of cut r.txn after) ≡ first_previous (kept_records_of cut r.txn before)
  first-later some = ap first_previous records-own ∙ by (kept_records_of cut r.txn before) some
    where
      by : (es : List (ℕ × LogRecord)) → (es ≡ [] → ⊥) → first_previous (es ++ (n, r) ∷ []) ≡ first_previous es
      by [] some = absurd (some refl)
      by (e ∷ es) some = refl

  -- who is whole with the record was so before
  pub whole_before : IsWholeIn cut after r.txn → IsWholeIn cut before r.txn
  whole_before whole = ⊎_elim
      (λ none. ap first_previous none)
      (λ some. sym (first-later some) ∙ whole)
      (empty_or (kept_records_of cut r.txn before))

  -- a first record of one that is whole names none
  pub whole_first : IsWholeIn cut after r.txn → kept_last_of cut r.txn before ≡ 0 → r.previous ≡ 0
  whole_first whole none = ⊎_elim
      (λ empty. sym (first-first empty) ∙ whole)
      (λ some. absurd (let low = last_low (λ x. x.1.txn == r.txn) (cut + 1) before some in omega arith))
      (empty_or (kept_records_of cut r.txn before))

module _ (cut : ℕ) (kept : List LogRecord) (t : ℕ) where
  pub none_kept : kept_last_of cut t kept ≡ 0 → kept_records_of cut t kept ≡ []
  none_kept none = ⊎_elim
      (λ empty. empty)
      (λ some. absurd (let low = last_low (λ x. x.1.txn == t) (cut + 1) kept some in omega arith))
      (empty_or (kept_records_of cut t kept))

  pub some_kept : 0 < kept_last_of cut t kept → kept_records_of cut t kept ≡ [] → ⊥
  some_kept some empty = let none : kept_last_of cut t kept ≡ 0 = ap (λ es. first_number (reverse es)) empty in omega arith

  pub first_above : 0 < t → (kept_records_of cut t kept ≡ [] → ⊥) → cut < first_of t (padded cut kept)
  first_above one some =
      let low = first_low (λ x. x.1.txn == t) (cut + 1) kept some in
      let same : first_of t (padded cut kept) ≡ first_number (kept_records_of cut t kept) = ap first_number (records_padded t one cut kept) in
      omega arith
