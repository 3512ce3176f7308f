-- A record that decides nothing, of a transaction that is neither committed nor in doubt, leaves what the log tells.
use Rattle.std.proofs.Common.{◌≡◌, ◌≢◌, ℕ, List, [], ◌∷◌, ◌++◌, Bool, true, false, cond, Some, None, map, refl, sym, ap, ◌∙◌, append-nil}
use Rattle.std.specs.Prelude.{filter, ◌&&◌, ◌||◌, not}
use Rattle.std.specs.List.{filter_map, cons_option}
use Rattle.std.proofs.lemmas.List.Elements.{filter_map-append}
use Rattle.shore_model.specs.declared.log_records.LogRecord.{LogRecord}
use Rattle.shore_model.specs.Records.{WriteSet, overlays}
use Rattle.shore_model.specs.Logs.{has, is_commit, is_decision, is_in_doubt, is_prepare, is_rollback, in_doubt_in, logged_writes, prepare_of, records_told}
use Rattle.laws_lives.specs.LogTells.{records_committed}
use Rattle.laws_lives.proofs.LogTells.{logged_other}
use Rattle.laws_lives.proofs.CommittedRecords.{AreOthers, committed-same}
use Rattle.laws_lives.proofs.OneMore.{has-not_this}

none_of_three : (a b c : Bool) → (a || b || c) ≡ false → (a ≡ false) × (b ≡ false) × (c ≡ false)
none_of_three false false c h = (refl, refl, h)
none_of_three false true c h = cc
none_of_three true b c h = cc

-- who does not pass is not among those that pass
apart_from_passed : (p : ℕ → Bool) (t : ℕ) → p t ≡ false → (us : List ℕ) → AreOthers t (filter p us)
apart_from_passed p t fails [] = tt
apart_from_passed p t fails (u ∷ us) =
    elim (p u) as (λ b. p u ≡ b → AreOthers t (cond b (u ∷ filter p us) (filter p us))) [
      | true ↦ λ passes. ((λ e. let clash : true ≡ false = sym passes ∙ ap p e ∙ fails in cc), apart_from_passed p t fails us)
      | false ↦ λ e. apart_from_passed p t fails us
    ] refl

same_for_others : (f g : ℕ → WriteSet) (t : ℕ) → ((u : ℕ) → t ≢ u → f u ≡ g u) → (us : List ℕ) → AreOthers t us → map f us ≡ map g us
same_for_others f g t same [] h = refl
same_for_others f g t same (u ∷ us) h =
    ap (λ W. W ∷ map f us) (same u (λ e. h.0 (sym e))) ∙ ap (λ Ws. g u ∷ Ws) (same_for_others f g t same us h.1)

module _ (log : List LogRecord) (r : LogRecord) (decides : is_decision r.payload ≡ false) where
  abbrev after : List LogRecord
  after = log ++ r ∷ []

  abbrev decides_none : (is_commit r.payload ≡ false) × (is_prepare r.payload ≡ false) × (is_rollback r.payload ≡ false)
  decides_none = none_of_three (is_commit r.payload) (is_prepare r.payload) (is_rollback r.payload) decides

  is_in_doubt_same : (u : ℕ) → is_in_doubt u after ≡ is_in_doubt u log
  is_in_doubt_same u =
      ap (λ b. b && not (has is_commit u after) && not (has is_rollback u after)) (has-not_this log r is_prepare u decides_none.1)
      ∙ ap (λ b. has is_prepare u log && not b && not (has is_rollback u after)) (has-not_this log r is_commit u decides_none.0)
      ∙ ap (λ b. has is_prepare u log && not (has is_commit u log) && not b) (has-not_this log r is_rollback u decides_none.2)

  prepared_same : filter_map prepare_of after ≡ filter_map prepare_of log
  prepared_same =
      filter_map-append prepare_of log (r ∷ []) ∙ ap (λ b. filter_map prepare_of log ++ cons_option (cond b (Some r.txn) None) []) decides_none.1
      ∙ append-nil (filter_map prepare_of log)

  pub in_doubt_same_after : in_doubt_in after ≡ in_doubt_in log
  in_doubt_same_after =
      let same : (λ u. is_in_doubt u after) ≡ (λ u. is_in_doubt u log) = λ i u. is_in_doubt_same u i in
      ap (filter (λ u. is_in_doubt u after)) prepared_same ∙ ap (λ p. filter p (filter_map prepare_of log)) same

  pub tells_same_after : has is_commit r.txn log ≡ false → is_in_doubt r.txn log ≡ false → records_told after ≡ records_told log
  tells_same_after uncommitted not_in_doubt =
      ap (λ R. overlays R (map (logged_writes after) (in_doubt_in after))) (committed-same log r decides_none.0 uncommitted)
      ∙ ap (λ us. overlays (records_committed log) (map (logged_writes after) us)) in_doubt_same_after
      ∙ ap (overlays (records_committed log))
      (same_for_others (logged_writes after) (logged_writes log) r.txn (logged_other log r) (in_doubt_in log)
      (apart_from_passed (λ u. is_in_doubt u log) r.txn not_in_doubt (filter_map prepare_of log)))
