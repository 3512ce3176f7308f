-- One more record that is no Commit leaves the committed records as they are.
use Rattle.std.proofs.Common.{◌≡◌, ◌≢◌, ℕ, List, [], ◌∷◌, ◌++◌, Bool, true, false, cond, Some, None, sym, ap, ◌∙◌}
use Rattle.std.specs.Prelude.{◌==◌, ◌&&◌}
use Rattle.std.specs.List.{AllByRecursion, cons_option}
use Rattle.std.proofs.lemmas.Bool.{eq-eqb}
use Rattle.shore_model.specs.declared.log_records.LogRecord.{LogRecord}
use Rattle.shore_model.specs.Logs.{has, is_commit, committed_in}
use Rattle.laws_lives.specs.LogTells.{records_committed}
use Rattle.laws_lives.proofs.LogTells.{tells_same}
use Rattle.laws_lives.proofs.Booleans.{or_none}

-- transactions other than t
abbrev pub AreOthers : ℕ → List ℕ → Type 0
AreOthers t us = AllByRecursion (λ u. u ≢ t) us

pub other_first : (b : Bool) (t u : ℕ) (us : List ℕ) → ((u == t) && b) ≡ false → AreOthers t us → AreOthers t (cons_option (cond b (Some u) None) us)
other_first true t u us h rest =
    (λ e. let yes : (u == t) ≡ true = eq-eqb u t e in let clash : true ≡ false = ap (λ b. b && true) (sym yes) ∙ h in cc, rest)
other_first false t u us h rest = rest

-- the committed are others than one without a Commit
pub uncommitted_apart : (t : ℕ) (log : List LogRecord) → has is_commit t log ≡ false → AreOthers t (committed_in log)
uncommitted_apart t [] h = tt
uncommitted_apart t (r ∷ log) h =
    let none = or_none ((r.txn == t) && is_commit r.payload) (has is_commit t log) h in
    other_first (is_commit r.payload) t r.txn (committed_in log) none.0 (uncommitted_apart t log none.1)

pub committed-same : (log : List LogRecord) (r : LogRecord) → is_commit r.payload ≡ false → has is_commit r.txn log ≡ false
    → records_committed (log ++ r ∷ []) ≡ records_committed log
committed-same log r no_commit uncommitted = tells_same log r no_commit (uncommitted_apart r.txn log uncommitted)
