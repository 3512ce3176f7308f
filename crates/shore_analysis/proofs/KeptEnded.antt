-- Who has not ended by what is kept is whole there, if each record means what it has to.
use Rattle.std.proofs.Common.{◌≡◌, ⊎_elim, ◌+◌, ◌<◌, ℕ, List, [], ◌∷◌, ◌++◌, Bool, true, cond, Some, refl, sym, ap, subst, ◌∙◌, length, take, drop, take-append-drop}
use Rattle.std.specs.Prelude.{◌==◌, ◌&&◌, filter, slice_get}
use Rattle.std.specs.List.{enumerate_from}
use Rattle.std.proofs.lemmas.Bool.{lt-ltb}
use Rattle.std.proofs.lemmas.List.Elements.{filter-append}
use Rattle.shore_types.specs.declared.layout.Geometry.{Geometry}
use Rattle.shore_model.specs.declared.log_records.LogRecord.{LogRecord}
use Rattle.laws_lives.proofs.Redo.{take_next}
use Rattle.laws_checkpoints.specs.KeptLogs.{IsKeptUnended, kept_records_of}
use Rattle.laws_checkpoints.specs.MeantBehind.{first_previous}
use Rattle.laws_checkpoints.proofs.Kept.{HasOne, known_one}
use Rattle.laws_checkpoints.proofs.Lists.{enumerate-append}
use Rattle.shore_analysis.specs.KeptMeant.{AreMeantKept, HaveEnded, IsWholeIn, is_own_cut_off, listed_cut_off}
use Rattle.shore_analysis.proofs.Answered.{one_or_none}
use Rattle.shore_analysis.proofs.KeptRecords.{records-own}

first_of_more : (xs ys : List (ℕ × LogRecord)) → (xs ≡ [] → ⊥) → first_previous (xs ++ ys) ≡ first_previous xs
first_of_more [] ys some = absurd (some refl)
first_of_more (x ∷ xs) ys some = refl

not_empty : (xs : List (ℕ × LogRecord)) (x : ℕ × LogRecord) → xs ++ x ∷ [] ≡ [] → ⊥
not_empty [] x h = cc
not_empty (y ∷ ys) x h = cc

-- what the first kept record names is told by any front that has it
pub first_in_front : (cut t k : ℕ) (kept : List LogRecord) → (kept_records_of cut t (take k kept) ≡ [] → ⊥)
    → first_previous (kept_records_of cut t kept) ≡ first_previous (kept_records_of cut t (take k kept))
first_in_front cut t k kept some =
    ap (λ xs. first_previous (kept_records_of cut t xs)) (sym (take-append-drop k kept))
    ∙ ap first_previous (ap (filter (λ x. x.1.txn == t)) (enumerate-append (cut + 1) (take k kept) (drop k kept))
    ∙ filter-append (λ x. x.1.txn == t) (enumerate_from (cut + 1) (take k kept)) (enumerate_from (cut + 1 + length (take k kept)) (drop k kept)))
    ∙ first_of_more (kept_records_of cut t (take k kept)) (filter (λ x. x.1.txn == t) (enumerate_from (cut + 1 + length (take k kept)) (drop k kept))) some

-- so it is by the front up to any record of it
pub first_by : (cut k : ℕ) (kept : List LogRecord) (r : LogRecord) → slice_get kept k ≡ Some r
    → first_previous (kept_records_of cut r.txn kept) ≡ first_previous (kept_records_of cut r.txn (take k kept ++ r ∷ []))
first_by cut k kept r at =
    let before = take k kept in
    let front : take (k + 1) kept ≡ before ++ r ∷ [] = take_next kept k r at in
    let here : kept_records_of cut r.txn (before ++ r ∷ []) ≡ [] → ⊥ = λ none. not_empty (kept_records_of cut r.txn before) (cut + 1 + length before, r) (sym (records-own cut before r) ∙ none) in
    first_in_front cut r.txn (k + 1) kept (λ none. here (ap (kept_records_of cut r.txn) (sym front) ∙ none)) ∙ ap (λ xs. first_previous (kept_records_of cut r.txn xs)) front

both_true : {a b : Bool} → a ≡ true → b ≡ true → (a && b) ≡ true
both_true p q = cc

pub unended_whole : (g : Geometry) (cut : ℕ) (kept : List LogRecord) → AreMeantKept g cut kept → (t : ℕ) → IsKeptUnended cut kept t → IsWholeIn cut kept t
unended_whole g cut kept all t u = ⊎_elim (λ zero. zero) (λ some. absurd (cut_off some)) (one_or_none (first_previous (kept_records_of cut t kept)))
  where
    one : HasOne kept t
    one = known_one t cut kept u.known

    cut_off : 0 < first_previous (kept_records_of cut t kept) → ⊥
    cut_off some =
        let r = one.found in
        let before = take one.at kept in
        let may = all one.at r one.here in
        let named : first_previous (kept_records_of cut t kept) ≡ first_previous (kept_records_of cut r.txn (before ++ r ∷ [])) =
        ap (λ v. first_previous (kept_records_of cut v kept)) (sym one.own) ∙ first_by cut one.at kept r one.here in
        let own : is_own_cut_off cut before r ≡ true =
        both_true (lt-ltb 0 r.txn (subst (λ v. 0 < v) (sym one.own) u.is_one)) (lt-ltb 0 (first_previous (kept_records_of cut r.txn (before ++ r ∷ []))) (subst (λ n. 0 < n) named some)) in
        let ended : HaveEnded cut kept (cond true (r.txn ∷ []) [] ++ listed_cut_off cut r.payload) = subst (λ b. HaveEnded cut kept (cond b (r.txn ∷ []) [] ++ listed_cut_off cut r.payload)) own may.ended in
        ended.0 (subst (IsKeptUnended cut kept) (sym one.own) u)
