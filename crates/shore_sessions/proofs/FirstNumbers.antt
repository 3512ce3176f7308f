-- What a record more makes of the numbers of a transaction's first record and of its Prepare.
use Rattle.std.proofs.Common.{◌≡◌, ◌≢◌, ◌⊎◌, inl, inr, ◌+◌, ◌<◌, ◌++◌, ◌∷◌, ◌==◌, [], List, ℕ, suc, Bool, true, false, cond, refl, sym, ap, subst, ◌∙◌, append-nil, arith, length}
use Rattle.std.specs.Prelude.{◌&&◌, filter}
use Rattle.std.specs.List.{AllByRecursion, enumerate_from}
use Rattle.std.proofs.lemmas.Bool.{eq-eqb, ne_eqb}
use Rattle.std.proofs.lemmas.List.Elements.{filter-append}
use Rattle.shore_model.specs.declared.log_records.LogRecord.{LogRecord}
use Rattle.shore_model.specs.Logs.{first_number, first_of, is_prepare, last_of, numbered, prepare_number}
use Rattle.shore_txn.specs.Numbers.{first_with}
use Rattle.laws_lives.proofs.OneMore.{by_push}
use Rattle.laws_lives.proofs.Writers.{same_or_not}
use Rattle.laws_lives.specs.Views.{IsAmong}
use Rattle.shore_sessions.proofs.LogSteps.{last_other, last_own}

enumerate-push : (n : ℕ) (rs : List LogRecord) (r : LogRecord) → enumerate_from n (rs ++ r ∷ []) ≡ enumerate_from n rs ++ (n + length rs, r) ∷ []
enumerate-push n [] r = let e : n ≡ n + 0 = omega arith in ap (λ (k : ℕ). (k, r) ∷ []) e
enumerate-push n (x ∷ rs) r =
    let e : n + 1 + length rs ≡ n + suc (length rs) = omega arith in
    ap (λ es. (n, x) ∷ es) (enumerate-push (n + 1) rs r ∙ ap (λ (k : ℕ). enumerate_from (n + 1) rs ++ (k, r) ∷ []) e)

-- ---- the first record of some kind

module _ (is_one : LogRecord → Bool) where
  abbrev found : ℕ → List LogRecord → List (ℕ × LogRecord)
  found n rs = filter (λ (e : ℕ × LogRecord). is_one e.1) (enumerate_from n rs)

  -- it has a number, if there is one
  none_or_some : (n : ℕ) (rs : List LogRecord) → 0 < n → (found n rs ≡ []) ⊎ (0 < first_number (found n rs))
  none_or_some n [] some = inl refl
  none_or_some n (x ∷ rs) some = here (is_one x) (none_or_some (n + 1) rs (omega (arith, some)))
    where
      here : (b : Bool) → (found (n + 1) rs ≡ []) ⊎ (0 < first_number (found (n + 1) rs))
          → (cond b ((n, x) ∷ found (n + 1) rs) (found (n + 1) rs) ≡ []) ⊎ (0 < first_number (cond b ((n, x) ∷ found (n + 1) rs) (found (n + 1) rs)))
      here true rest = inr some
      here false rest = rest

  one_behind : (es : List (ℕ × LogRecord)) (e : ℕ × LogRecord) → (es ≡ []) ⊎ (0 < first_number es) → first_number (es ++ e ∷ []) ≡ first_with (first_number es) e.0
  one_behind es e (inl none) = ap (λ (xs : List (ℕ × LogRecord)). first_number (xs ++ e ∷ [])) none ∙ sym (ap (λ (xs : List (ℕ × LogRecord)). first_with (first_number xs) e.0) none)
  one_behind [] e (inr some) = absurd (omega (arith, some))
  one_behind (x ∷ xs) e (inr some) = sym (ap (λ b. cond b e.0 x.0) (ne_eqb x.0 0 (λ zero_is. omega (arith, some, zero_is))))

  first_push : (rs : List LogRecord) (r : LogRecord)
      → first_number (found 1 (rs ++ r ∷ [])) ≡ cond (is_one r) (first_with (first_number (found 1 rs)) (1 + length rs)) (first_number (found 1 rs))
  first_push rs r =
      ap (λ es. first_number (filter (λ (e : ℕ × LogRecord). is_one e.1) es)) (enumerate-push 1 rs r)
      ∙ ap first_number (filter-append (λ (e : ℕ × LogRecord). is_one e.1) (numbered rs) ((1 + length rs, r) ∷ []))
      ∙ by (is_one r)
    where
      by : (b : Bool) → first_number (found 1 rs ++ cond b ((1 + length rs, r) ∷ []) []) ≡ cond b (first_with (first_number (found 1 rs)) (1 + length rs)) (first_number (found 1 rs))
      by true = one_behind (found 1 rs) (1 + length rs, r) (none_or_some 1 rs (omega arith))
      by false = ap first_number (append-nil (found 1 rs))

  -- one of the list has a number
  found_some : (n : ℕ) (rs : List LogRecord) (r : LogRecord) → 0 < n → IsAmong r rs → is_one r ≡ true → 0 < first_number (found n rs)
  found_some n [] r some m is = absurd m
  found_some n (x ∷ rs) r some (inl same) is = subst (λ b. 0 < first_number (cond b ((n, x) ∷ found (n + 1) rs) (found (n + 1) rs))) (sym (ap is_one same ∙ is)) some
  found_some n (x ∷ rs) r some (inr later) is = elim (is_one x) as (λ b. 0 < first_number (cond b ((n, x) ∷ found (n + 1) rs) (found (n + 1) rs))) [
    | true ↦ some
    | false ↦ found_some (n + 1) rs r (omega (arith, some)) later is
  ]

-- ---- that of a transaction

pub first_some : (log : List LogRecord) (r : LogRecord) → IsAmong r log → 0 < first_of r.txn log
first_some log r m = found_some (λ x. x.txn == r.txn) 1 log r (omega arith) m (eq-eqb r.txn r.txn refl)

pub first_own : (log : List LogRecord) (r : LogRecord) → first_of r.txn (log ++ r ∷ []) ≡ first_with (first_of r.txn log) (1 + length log)
first_own log r =
    first_push (λ x. x.txn == r.txn) log r ∙ ap (λ b. cond b (first_with (first_of r.txn log) (1 + length log)) (first_of r.txn log)) (eq-eqb r.txn r.txn refl)

pub first_other : (t : ℕ) (log : List LogRecord) (r : LogRecord) → r.txn ≢ t → first_of t (log ++ r ∷ []) ≡ first_of t log
first_other t log r other = first_push (λ x. x.txn == t) log r ∙ ap (λ b. cond b (first_with (first_of t log) (1 + length log)) (first_of t log)) (ne_eqb r.txn t other)

-- one that has a first has a last
pub last_some : (t : ℕ) (log : List LogRecord) → 0 < first_of t log → 0 < last_of t log
last_some t = by_push (λ log. 0 < first_of t log → 0 < last_of t log) (λ some. absurd (omega (arith, some))) one_more
  where
    one_more : (log : List LogRecord) (r : LogRecord) → (0 < first_of t log → 0 < last_of t log) → 0 < first_of t (log ++ r ∷ []) → 0 < last_of t (log ++ r ∷ [])
    one_more log r known some = elim (same_or_not r.txn t) [
      | inl own ↦ subst (λ u. 0 < last_of u (log ++ r ∷ [])) own (let number = last_own log r in omega (arith, number))
      | inr other ↦ subst (λ n. 0 < n) (sym (last_other t log r other)) (known (subst (λ n. 0 < n) (first_other t log r other) some))
    ]

none_from : (is_one : LogRecord → Bool) (t n : ℕ) (log : List LogRecord) → ((r : LogRecord) → r.txn ≢ t → is_one r ≡ false) → AllByRecursion (λ r. r.txn < t) log → found is_one n log ≡ []
none_from is_one t n [] not below = refl
none_from is_one t n (r ∷ log) not below =
    ap (λ b. cond b ((n, r) ∷ found is_one (n + 1) log) (found is_one (n + 1) log)) (not r (λ same. let less = below.0 in omega (arith, less, same)))
    ∙ none_from is_one t (n + 1) log not below.1

-- a transaction above all records has none
pub first_none : (t : ℕ) (log : List LogRecord) → AllByRecursion (λ r. r.txn < t) log → first_of t log ≡ 0
first_none t log below = ap first_number (none_from (λ r. r.txn == t) t 1 log (λ r other. ne_eqb r.txn t other) below)

-- ---- its Prepare

abbrev prepares : ℕ → LogRecord → Bool
prepares t r = (r.txn == t) && is_prepare r.payload

pub prepare_other : (t : ℕ) (log : List LogRecord) (r : LogRecord) → r.txn ≢ t → prepare_number t (log ++ r ∷ []) ≡ prepare_number t log
prepare_other t log r other =
    first_push (prepares t) log r ∙ ap (λ b. cond (b && is_prepare r.payload) (first_with (prepare_number t log) (1 + length log)) (prepare_number t log)) (ne_eqb r.txn t other)

-- another record of its own is none
pub prepare_not : (t : ℕ) (log : List LogRecord) (r : LogRecord) → is_prepare r.payload ≡ false → prepare_number t (log ++ r ∷ []) ≡ prepare_number t log
prepare_not t log r not_one =
    first_push (prepares t) log r ∙ ap (λ b. cond ((r.txn == t) && b) (first_with (prepare_number t log) (1 + length log)) (prepare_number t log)) not_one ∙ by (r.txn == t)
  where
    by : (b : Bool) → cond (b && false) (first_with (prepare_number t log) (1 + length log)) (prepare_number t log) ≡ prepare_number t log
    by true = refl
    by false = refl

-- its first
pub prepare_own : (log : List LogRecord) (r : LogRecord) → is_prepare r.payload ≡ true → prepare_number r.txn log ≡ 0 → prepare_number r.txn (log ++ r ∷ []) ≡ 1 + length log
prepare_own log r is none =
    first_push (prepares r.txn) log r
    ∙ ap (λ b. cond (b && is_prepare r.payload) (first_with (prepare_number r.txn log) (1 + length log)) (prepare_number r.txn log)) (eq-eqb r.txn r.txn refl)
    ∙ ap (λ b. cond b (first_with (prepare_number r.txn log) (1 + length log)) (prepare_number r.txn log)) is
    ∙ ap (λ n. first_with n (1 + length log)) none

pub prepare_none : (t : ℕ) (log : List LogRecord) → AllByRecursion (λ r. r.txn < t) log → prepare_number t log ≡ 0
prepare_none t log below = ap first_number (none_from (prepares t) t 1 log (λ r other. ap (λ b. b && is_prepare r.payload) (ne_eqb r.txn t other)) below)
