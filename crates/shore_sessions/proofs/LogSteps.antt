-- What a record more makes of a log: the last records of transactions, and the sum of its costs.
use Rattle.std.proofs.Common.{◌≡◌, ◌≢◌, ◌+◌, ◌<◌, ◌≤◌, ◌++◌, ◌∷◌, ◌==◌, [], List, ℕ, Bool, true, false, cond, refl, ap, ◌∙◌, arith, length}
use Rattle.std.specs.Prelude.{◌&&◌, filter, reverse}
use Rattle.std.specs.List.{AllByRecursion, enumerate_from}
use Rattle.std.proofs.lemmas.Bool.{eq-eqb, ne_eqb}
use Rattle.std.proofs.lemmas.List.Sums.{sum_by-append}
use Rattle.shore_model.specs.declared.log_records.LogRecord.{LogRecord}
use Rattle.shore_model.specs.Logs.{first_number, is_rollback, last_of, previous_of, records_of, unanswered, unanswered_in}
use Rattle.shore_model.proofs.LogSteps.{newest-push}
use Rattle.shore_logrec.specs.Text.{cost_of}
use Rattle.laws_calls.proofs.RollbackNumbers.{number_push}
use Rattle.laws_calls.specs.Resolves.{rollback_number}
use Rattle.laws_calls.specs.States.{cost_of_log}

pub last_own : (log : List LogRecord) (r : LogRecord) → last_of r.txn (log ++ r ∷ []) ≡ 1 + length log
last_own log r = ap first_number
    (newest-push r.txn log r ∙ ap (λ b. cond b ((1 + length log, r) ∷ reverse (records_of r.txn log)) (reverse (records_of r.txn log))) (eq-eqb r.txn r.txn refl))

pub last_other : (t : ℕ) (log : List LogRecord) (r : LogRecord) → r.txn ≢ t → last_of t (log ++ r ∷ []) ≡ last_of t log
last_other t log r other = ap first_number
    (newest-push t log r ∙ ap (λ b. cond b ((1 + length log, r) ∷ reverse (records_of t log)) (reverse (records_of t log))) (ne_eqb r.txn t other))

pub previous_positive : (t n : ℕ) → 0 < t → cond (t == 0) 0 n ≡ n
previous_positive t n some = let not_zero : t ≢ 0 = λ z. omega (arith, some, z) in ap (λ b. cond b 0 n) (ne_eqb t 0 not_zero)

-- the record is the last of its transaction
pub previous_own : (log : List LogRecord) (r : LogRecord) → 0 < r.txn → previous_of r.txn (log ++ r ∷ []) ≡ 1 + length log
previous_own log r some = previous_positive r.txn (last_of r.txn (log ++ r ∷ [])) some ∙ last_own log r

-- .. and of no other
pub previous_other : (t : ℕ) (log : List LogRecord) (r : LogRecord) → r.txn ≢ t → previous_of t (log ++ r ∷ []) ≡ previous_of t log
previous_other t log r other = ap (λ n. cond (t == 0) 0 n) (last_other t log r other)

none_from : (t n : ℕ) (log : List LogRecord) → AllByRecursion (λ r. r.txn < t) log → filter (λ e. e.1.txn == t) (enumerate_from n log) ≡ []
none_from t n [] below = refl
none_from t n (r ∷ log) below =
    let other : r.txn ≢ t = λ same. omega (arith, below.0, same) in
    ap (λ b. cond b ((n, r) ∷ filter (λ e. e.1.txn == t) (enumerate_from (n + 1) log)) (filter (λ e. e.1.txn == t) (enumerate_from (n + 1) log))) (ne_eqb r.txn t other)
    ∙ none_from t (n + 1) log below.1

-- a transaction above all records has none
pub previous_none : (t : ℕ) (log : List LogRecord) → 0 < t → AllByRecursion (λ r. r.txn < t) log → previous_of t log ≡ 0
previous_none t log some below = previous_positive t (last_of t log) some ∙ ap (λ es. first_number (reverse es)) (none_from t 1 log below)

-- .. and no Change
pub unanswered_none : (t : ℕ) (log : List LogRecord) → AllByRecursion (λ r. r.txn < t) log → unanswered t log ≡ []
unanswered_none t log below = ap (λ es. unanswered_in (reverse es)) (none_from t 1 log below)

pub all_higher : (n m : ℕ) (log : List LogRecord) → n ≤ m → AllByRecursion (λ r. r.txn < n) log → AllByRecursion (λ r. r.txn < m) log
all_higher n m [] rise all = tt
all_higher n m (r ∷ log) rise all = (omega (arith, rise, all.0), all_higher n m log rise all.1)

pub cost_push : (log : List LogRecord) (r : LogRecord) → cost_of_log (log ++ r ∷ []) ≡ cost_of_log log + cost_of r.payload
cost_push log r = let sum = sum_by-append (λ (x : LogRecord). cost_of x.payload) log (r ∷ []) in omega (arith, sum)

-- as much stays free if as much more is logged as is kept
pub room_on : (kept cost more : ℕ) {bytes stream bytes' kept' cost' stream' : ℕ} → bytes' ≡ bytes → kept' ≡ kept + more → cost' ≡ cost + more → stream' ≡ stream → bytes + kept ≡ cost + stream
    → bytes' + kept' ≡ cost' + stream'
room_on kept cost more b k c s was = omega (arith, b, k, c, s, was)

-- .. or nothing is
pub room_still : {bytes kept cost stream bytes' kept' cost' stream' : ℕ} → bytes' ≡ bytes → kept' ≡ kept → cost' ≡ cost → stream' ≡ stream → bytes + kept ≡ cost + stream → bytes' + kept' ≡ cost' + stream'
room_still b k c s was = omega (arith, b, k, c, s, was)

-- ---- a Rollback decided

-- a record of another transaction decides nothing of this one
pub rollback_other : (t : ℕ) (log : List LogRecord) (r : LogRecord) → r.txn ≢ t → rollback_number t (log ++ r ∷ []) ≡ rollback_number t log
rollback_other t log r other = number_push t log r ∙ ap (λ b. cond (b && is_rollback r.payload) (1 + length log) (rollback_number t log)) (ne_eqb r.txn t other)

-- .. nor does another record of its own
pub rollback_not : (t : ℕ) (log : List LogRecord) (r : LogRecord) → is_rollback r.payload ≡ false → rollback_number t (log ++ r ∷ []) ≡ rollback_number t log
rollback_not t log r not_one = number_push t log r ∙ ap (λ b. cond ((r.txn == t) && b) (1 + length log) (rollback_number t log)) not_one ∙ by (r.txn == t)
  where
    by : (b : Bool) → cond (b && false) (1 + length log) (rollback_number t log) ≡ rollback_number t log
    by true = refl
    by false = refl

pub rollback_own : (log : List LogRecord) (r : LogRecord) → is_rollback r.payload ≡ true → rollback_number r.txn (log ++ r ∷ []) ≡ 1 + length log
rollback_own log r is =
    number_push r.txn log r ∙ ap (λ b. cond (b && is_rollback r.payload) (1 + length log) (rollback_number r.txn log)) (eq-eqb r.txn r.txn refl)
    ∙ ap (λ b. cond b (1 + length log) (rollback_number r.txn log)) is

no_rollback_from : (t n : ℕ) (log : List LogRecord) → AllByRecursion (λ r. r.txn < t) log → filter (λ e. (e.1.txn == t) && is_rollback e.1.payload) (enumerate_from n log) ≡ []
no_rollback_from t n [] below = refl
no_rollback_from t n (r ∷ log) below =
    let other : r.txn ≢ t = λ same. omega (arith, below.0, same) in
    let rest = filter (λ e. (e.1.txn == t) && is_rollback e.1.payload) (enumerate_from (n + 1) log) in
    ap (λ b. cond (b && is_rollback r.payload) ((n, r) ∷ rest) rest) (ne_eqb r.txn t other) ∙ no_rollback_from t (n + 1) log below.1

-- a transaction above all records has none
pub rollback_none : (t : ℕ) (log : List LogRecord) → AllByRecursion (λ r. r.txn < t) log → rollback_number t log ≡ 0
rollback_none t log below = ap (λ es. first_number (reverse es)) (no_rollback_from t 1 log below)
