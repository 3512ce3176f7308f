-- The numbers of a transaction's records, with one more record.
use Rattle.std.proofs.Common.{◌≡◌, ◌≢◌, ◌+◌, ℕ, List, [], ◌∷◌, ◌++◌, cond, refl, ap, ◌∙◌, length}
use Rattle.std.specs.Prelude.{reverse}
use Rattle.std.proofs.lemmas.Bool.{eq-eqb, ne_eqb}
use Rattle.shore_model.specs.declared.log_records.LogRecord.{LogRecord}
use Rattle.shore_model.specs.Logs.{first_number, last_of, records_of}
use Rattle.shore_model.proofs.LogSteps.{newest-push}

module _ (log : List LogRecord) (r : LogRecord) where
  pub last_own : last_of r.txn (log ++ r ∷ []) ≡ 1 + length log
  last_own =
      ap first_number
      (newest-push r.txn log r ∙ ap (λ b. cond b ((1 + length log, r) ∷ reverse (records_of r.txn log)) (reverse (records_of r.txn log))) (eq-eqb r.txn r.txn refl))

  pub newest_other : (t : ℕ) → r.txn ≢ t → reverse (records_of t (log ++ r ∷ [])) ≡ reverse (records_of t log)
  newest_other t other =
      newest-push t log r ∙ ap (λ b. cond b ((1 + length log, r) ∷ reverse (records_of t log)) (reverse (records_of t log))) (ne_eqb r.txn t other)
