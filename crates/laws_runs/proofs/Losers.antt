-- The losers of a log with one more record, and those in doubt in it.
use Rattle.std.proofs.Common.{◌≡◌, ◌≢◌, inl, inr, ◌++◌, ◌<◌, ℕ, List, [], ◌∷◌, false, sym, subst, ◌∙◌, arith}
use Rattle.shore_model.specs.declared.log_records.LogRecord.{LogRecord}
use Rattle.shore_model.specs.Logs.{first_number, is_commit, is_end, is_in_doubt, is_prepare, is_rollback}
use Rattle.shore_analysis.proofs.Phases.{doubt-by, doubt_other}
use Rattle.laws_lives.proofs.EndedTxns.{over_other, over_same}
use Rattle.laws_lives.proofs.Numbers.{last_own, newest_other}
use Rattle.laws_lives.proofs.OneMore.{has-not_this}
use Rattle.laws_lives.specs.Undo.{IsLoser}
use Rattle.laws_runs.specs.RoomyLogs.{IsUndecided}

-- ---- one more record

module _ (log : List LogRecord) (r : LogRecord) where
  -- of another transaction
  pub other_still_loses : (u : ℕ) → r.txn ≢ u → IsLoser log u → IsLoser (log ++ r ∷ []) u
  other_still_loses u other h = record {
    is_one = h.is_one;
    known = subst (λ es. 0 < first_number es) (sym (newest_other log r u other)) h.known;
    not_over = over_other log r u other ∙ h.not_over;
    not_in_doubt = doubt_other log r u other ∙ h.not_in_doubt;
  }

  pub other_lost : (u : ℕ) → r.txn ≢ u → IsLoser (log ++ r ∷ []) u → IsLoser log u
  other_lost u other h = record {
    is_one = h.is_one;
    known = subst (λ es. 0 < first_number es) (newest_other log r u other) h.known;
    not_over = sym (over_other log r u other) ∙ h.not_over;
    not_in_doubt = sym (doubt_other log r u other) ∙ h.not_in_doubt;
  }

  pub other_still_undecided : (u : ℕ) → r.txn ≢ u → IsUndecided log u → IsUndecided (log ++ r ∷ []) u
  other_still_undecided u other (inl loser) = inl (other_still_loses u other loser)
  other_still_undecided u other (inr doubt) = inr (doubt_other log r u other ∙ doubt)

  pub other_undecided : (u : ℕ) → r.txn ≢ u → IsUndecided (log ++ r ∷ []) u → IsUndecided log u
  other_undecided u other (inl loser) = inl (other_lost u other loser)
  other_undecided u other (inr doubt) = inr (sym (doubt_other log r u other) ∙ doubt)

  -- of its own, that decides nothing and ends nothing
  module _ (no_prepare : is_prepare r.payload ≡ false) (no_commit : is_commit r.payload ≡ false) (no_rollback : is_rollback r.payload ≡ false) where
    pub own_doubt : is_in_doubt r.txn (log ++ r ∷ []) ≡ is_in_doubt r.txn log
    own_doubt = doubt-by log (log ++ r ∷ []) r.txn (has-not_this log r is_prepare r.txn no_prepare) (has-not_this log r is_commit r.txn no_commit) (has-not_this log r is_rollback r.txn no_rollback)

    pub own_still_loses : is_end r.payload ≡ false → IsLoser log r.txn → IsLoser (log ++ r ∷ []) r.txn
    own_still_loses no_end h =
        let number = last_own log r in
        record {
          is_one = h.is_one;
          known = omega arith;
          not_over = over_same log r no_commit no_end r.txn ∙ h.not_over;
          not_in_doubt = own_doubt ∙ h.not_in_doubt;
        }
