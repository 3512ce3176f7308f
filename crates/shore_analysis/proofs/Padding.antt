-- What is said of a transaction by the kept records is said of it by the log with blanks in the place of those that are cut off.
use Rattle.std.proofs.Common.{◌≡◌, ⊎_elim, ◌⊎◌, inl, inr, ◌+◌, ◌-◌, ◌<◌, ◌≤◌, ℕ, zero, suc, List, [], ◌∷◌, ◌++◌, Bool, false, cond, Option, None, Some, refl, sym, ap, subst, ◌∙◌, length, take, arith}
use Rattle.std.specs.Prelude.{◌==◌, ◌&&◌, ◌||◌, filter, reverse, slice_get}
use Rattle.std.specs.List.{enumerate_from}
use Rattle.std.proofs.lemmas.Bool.{ne_eqb}
use Rattle.shore_types.specs.declared.layout.Geometry.{Geometry}
use Rattle.shore_types.specs.declared.locking.Granule.{Granule}
use Rattle.shore_model.specs.declared.log_records.LogRecord.{LogRecord}
use Rattle.shore_model.specs.declared.log_records.Payload.{Payload}
use Rattle.shore_model.specs.declared.unanswered_changes.UnansweredChange.{UnansweredChange}
use Rattle.shore_model.specs.Logs.{first_number, has, is_commit, is_end, is_over, is_prepare, last_of, prepare_number, records_of, unanswered, undo_next_of}
use Rattle.laws_lives.proofs.UndoChains.{unanswered_chain}
use Rattle.laws_lives.specs.UndoChains.{IsUndoChain}
use Rattle.laws_checkpoints.specs.KeptLogs.{kept_last_of, kept_prepare_number, kept_records_of}
use Rattle.shore_analysis.specs.Padded.{blank, padded}
use Rattle.shore_analysis.specs.Meant.{AreMeantOf}
use Rattle.shore_analysis.proofs.Answered.{last_named}
use Rattle.shore_analysis.proofs.Covered.{SeenBack, last_is}
use Rattle.shore_analysis.proofs.MeantLogs.{get_in_take, taken_within}

-- ---- places

pub length_padded : (cut : ℕ) (kept : List LogRecord) → length (padded cut kept) ≡ cut + length kept
length_padded zero kept = omega arith
length_padded (suc cut) kept = let e = length_padded cut kept in omega arith

pub padded-push : (cut : ℕ) (kept : List LogRecord) (r : LogRecord) → padded cut (kept ++ r ∷ []) ≡ padded cut kept ++ r ∷ []
padded-push zero kept r = refl
padded-push (suc cut) kept r = ap (λ rs. blank ∷ rs) (padded-push cut kept r)

pub take_padded : (cut n : ℕ) (kept : List LogRecord) → take (cut + n) (padded cut kept) ≡ padded cut (take n kept)
take_padded zero n kept = let e : 0 + n ≡ n = omega arith in ap (λ k. take k kept) e
take_padded (suc cut) n kept =
    let e : suc cut + n ≡ suc (cut + n) = omega arith in
    ap (λ k. take k (padded (suc cut) kept)) e ∙ ap (λ rs. blank ∷ rs) (take_padded cut n kept)

pub get_padded : (cut n : ℕ) (kept : List LogRecord) → slice_get (padded cut kept) (cut + n) ≡ slice_get kept n
get_padded zero n kept = let e : 0 + n ≡ n = omega arith in ap (slice_get kept) e
get_padded (suc cut) n kept =
    let e : suc cut + n ≡ suc (cut + n) = omega arith in
    ap (slice_get (padded (suc cut) kept)) e ∙ get_padded cut n kept

pub get_blank : (cut n : ℕ) (kept : List LogRecord) → n < cut → slice_get (padded cut kept) n ≡ Some blank
get_blank zero n kept lt = absurd (omega arith)
get_blank (suc cut) zero kept lt = refl
get_blank (suc cut) (suc n) kept lt = get_blank cut n kept (omega arith)

-- the record with a number behind the cut
pub get_number : (cut n : ℕ) (kept : List LogRecord) → cut < n → slice_get (padded cut kept) (n - 1) ≡ slice_get kept (n - (cut + 1))
get_number cut n kept lt =
    let e : n - 1 ≡ cut + (n - (cut + 1)) = omega arith in
    ap (slice_get (padded cut kept)) e ∙ get_padded cut (n - (cut + 1)) kept

-- a record of a transaction is not blank
pub behind_cut : (cut n : ℕ) (kept : List LogRecord) (r : LogRecord) → slice_get (padded cut kept) n ≡ Some r → 0 < r.txn → cut ≤ n
behind_cut cut n kept r at one = ⊎_elim (λ le. le) (λ lt. absurd (blank_of_one (get_blank cut n kept lt))) (cases cut n)
  where
    cases : (a b : ℕ) → (a ≤ b) ⊎ (b < a)
    cases zero b = inl (omega arith)
    cases (suc a) zero = inr (omega arith)
    cases (suc a) (suc b) = ⊎_elim (λ le. inl (omega arith)) (λ lt. inr (omega arith)) (cases a b)

    value : Option LogRecord → LogRecord
    value (Some x) = x
    value None = blank

    blank_of_one : slice_get (padded cut kept) n ≡ Some blank → ⊥
    blank_of_one is =
        let none : r.txn ≡ 0 = ap (λ o. (value o).txn) (sym at ∙ is) in
        omega arith

-- ---- a transaction

module _ (t : ℕ) (one : 0 < t) where
  abbrev its : ℕ × LogRecord → Bool
  its r = r.1.txn == t

  nobody : (0 == t) ≡ false
  nobody = ne_eqb 0 t (λ e. omega arith)

  -- the records that pass a test, which no blank does
  pub passing_behind : (f : ℕ × LogRecord → Bool) → ((n : ℕ) → f (n, blank) ≡ false) → (k cut : ℕ) (kept : List LogRecord)
      → filter f (enumerate_from k (padded cut kept)) ≡ filter f (enumerate_from (k + cut) kept)
  passing_behind f none k zero kept = let e : k ≡ k + 0 = omega arith in ap (λ n. filter f (enumerate_from n kept)) e
  passing_behind f none k (suc cut) kept =
      let e : k + 1 + cut ≡ k + suc cut = omega arith in
      ap (λ b. cond b ((k, blank) ∷ filter f (enumerate_from (k + 1) (padded cut kept))) (filter f (enumerate_from (k + 1) (padded cut kept)))) (none k)
      ∙ passing_behind f none (k + 1) cut kept ∙ ap (λ n. filter f (enumerate_from n kept)) e

  pub records_padded : (cut : ℕ) (kept : List LogRecord) → records_of t (padded cut kept) ≡ kept_records_of cut t kept
  records_padded cut kept =
      let e : 1 + cut ≡ cut + 1 = omega arith in
      passing_behind its (λ n. nobody) 1 cut kept ∙ ap (λ n. filter its (enumerate_from n kept)) e

  pub has_padded : (p : Payload → Bool) (cut : ℕ) (kept : List LogRecord) → has p t (padded cut kept) ≡ has p t kept
  has_padded p zero kept = refl
  has_padded p (suc cut) kept = ap (λ b. (b && p blank.payload) || has p t (padded cut kept)) nobody ∙ has_padded p cut kept

  module _ (cut : ℕ) (kept : List LogRecord) where
    pub over_padded : is_over t (padded cut kept) ≡ is_over t kept
    over_padded = λ i. has_padded is_commit cut kept i || has_padded is_end cut kept i

    pub prepare_padded : prepare_number t (padded cut kept) ≡ kept_prepare_number cut t kept
    prepare_padded =
        let e : 1 + cut ≡ cut + 1 = omega arith in
        ap first_number (passing_behind (λ r. (r.1.txn == t) && is_prepare r.1.payload) (λ n. ap (λ b. b && is_prepare blank.payload) nobody) 1 cut kept
        ∙ ap (λ n. filter (λ r. (r.1.txn == t) && is_prepare r.1.payload) (enumerate_from n kept)) e)

    pub last_padded : last_of t (padded cut kept) ≡ kept_last_of cut t kept
    last_padded = ap (λ es. first_number (reverse es)) (records_padded cut kept)

    -- a number of one of its records is behind the cut
    pub last_above : 0 < last_of t (padded cut kept) → cut < last_of t (padded cut kept)
    last_above some =
        let last = last_is t [] (padded cut kept) some in
        let le = behind_cut cut (last_of t (padded cut kept) - 1) kept last.found last.here (subst (λ u. 0 < u) (sym last.own) one) in
        omega arith

    pub next_above : 0 < undo_next_of (unanswered t (padded cut kept)) → cut < undo_next_of (unanswered t (padded cut kept))
    next_above = by (unanswered t (padded cut kept)) (unanswered_chain (padded cut kept) t)
      where
        by : (cs : List UnansweredChange) → IsUndoChain (padded cut kept) t cs → 0 < undo_next_of cs → cut < undo_next_of cs
        by [] chain some = absurd (omega arith)
        by (c ∷ cs) chain some =
            let k = chain.0 in
            let le = behind_cut cut (c.number - 1) kept k.found k.here (subst (λ u. 0 < u) (sym k.own) one) in
            omega arith

-- the number that a record of a transaction names is behind the cut
pub own_previous : (g : Geometry) (cut n : ℕ) (kept : List LogRecord) (r : LogRecord) → slice_get (padded cut kept) n ≡ Some r → 0 < r.txn → AreMeantOf g r.txn (padded cut kept)
    → 0 < r.previous → cut < r.previous
own_previous g cut n kept r at one meant some =
    let le = behind_cut cut n kept r at one in
    let there : cut + (n - cut) ≡ n = omega arith in
    let front : take n (padded cut kept) ≡ padded cut (take (n - cut) kept) = ap (λ k. take k (padded cut kept)) (sym there) ∙ take_padded cut (n - cut) kept in
    let here = meant n r at refl in
    let names : r.previous ≡ last_of r.txn (padded cut (take (n - cut) kept)) = here.previous ∙ last_named (take n (padded cut kept)) r.txn one ∙ ap (last_of r.txn) front in
    let above = last_above r.txn one cut (take (n - cut) kept) (subst (λ k. 0 < k) names some) in
    subst (λ k. cut < k) (sym names) above

-- a place at or behind the cut, or none of its records is before it
take_within : (cut at : ℕ) (kept : List LogRecord) (t : ℕ) → 0 < t → 0 < last_of t (take at (padded cut kept)) → cut < last_of t (take at (padded cut kept))
take_within cut at kept t one some =
    let last = last_is t [] (take at (padded cut kept)) some in
    let lt = taken_within (padded cut kept) at (last_of t (take at (padded cut kept)) - 1) last.found last.here in
    let there = sym (get_in_take (padded cut kept) at (last_of t (take at (padded cut kept)) - 1) lt) ∙ last.here in
    let le = behind_cut cut (last_of t (take at (padded cut kept)) - 1) kept last.found there (subst (λ u. 0 < u) (sym last.own) one) in
    omega arith

pub seen_above : (t : ℕ) (gs : List Granule) (cut : ℕ) (kept : List LogRecord) (number counter : ℕ) → SeenBack t gs (padded cut kept) number counter → 0 < t → 0 < number → cut < number
seen_above t gs cut kept number counter seen one some =
    subst (λ n. cut < n) (sym seen.last) (take_within cut seen.at kept t one (subst (λ n. 0 < n) seen.last some))
