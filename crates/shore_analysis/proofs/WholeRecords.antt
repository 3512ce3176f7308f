-- Where nothing is cut off each kept record is nobody's, or means what it has to in a whole log. So those in doubt have not ended, and each has one Prepare.
use Rattle.std.proofs.Common.{◌≡◌, ⊎_elim, ◌⊎◌, inl, inr, ◌<◌, ℕ, List, [], ◌∷◌, ◌++◌, Some, true, false, refl, sym, ap, subst, ◌∙◌, take, arith}
use Rattle.std.specs.Prelude.{slice_get}
use Rattle.std.proofs.lemmas.Bool.{true≢false}
use Rattle.shore_types.specs.declared.layout.Geometry.{Geometry}
use Rattle.shore_model.specs.declared.log_records.LogRecord.{LogRecord}
use Rattle.shore_model.specs.declared.log_records.Payload.{Payload}
use Rattle.shore_model.specs.declared.log_records.Payload.TheVariants.{Change, Compensation, Commit, End, Prepare, RollbackDecided, CheckpointBegin, CheckpointEnd, Anchor}
use Rattle.shore_model.specs.Logs.{is_commit, is_in_doubt, is_prepare, is_rollback}
use Rattle.laws_lives.proofs.OneMore.{has-not_this}
use Rattle.laws_lives.proofs.Writers.{same_or_not}
use Rattle.shore_analysis.specs.KeptMeant.{AreMeantKept, SaysOfCheckpoint}
use Rattle.shore_analysis.specs.Meant.{AreMeantOf, IsMeant}
use Rattle.shore_analysis.proofs.Answered.{one_or_none}
use Rattle.shore_analysis.proofs.InOrder.{PrepareOnce}
use Rattle.shore_analysis.proofs.KeptWholes.{is_meant}
use Rattle.shore_analysis.proofs.MeantLogs.{by_each}
use Rattle.shore_analysis.proofs.Phases.{IsUndecided, doubt-by, doubt_other, prepare_free, runs_behind, undecided_other}

-- it is of no transaction, and says nothing of whether one is in doubt
pub record IsNobodys (r : LogRecord) : Type 0 where
  pub nobody : r.txn ≡ 0
  pub no_prepare : is_prepare r.payload ≡ false
  pub no_commit : is_commit r.payload ≡ false
  pub no_rollback : is_rollback r.payload ≡ false

abbrev pub IsMeantOrNobodys : Geometry → List LogRecord → LogRecord → Type 0
IsMeantOrNobodys g before r = IsNobodys r ⊎ IsMeant g before r

nobodys : (cut : ℕ) (before : List LogRecord) (r : LogRecord) (p : Payload) → r.txn ≡ 0 → r.payload ≡ p → SaysOfCheckpoint cut before p → IsNobodys r
nobodys cut before r CheckpointBegin none is says = record { nobody = none; no_prepare = ap is_prepare is; no_commit = ap is_commit is; no_rollback = ap is_rollback is }
nobodys cut before r (CheckpointEnd begin next txns dirty) none is says = record { nobody = none; no_prepare = ap is_prepare is; no_commit = ap is_commit is; no_rollback = ap is_rollback is }
nobodys cut before r (Anchor checkpoint tail) none is says = record { nobody = none; no_prepare = ap is_prepare is; no_commit = ap is_commit is; no_rollback = ap is_rollback is }
nobodys cut before r (Change id was image) none is says = absurd says
nobodys cut before r (Compensation id image undo_next) none is says = absurd says
nobodys cut before r Commit none is says = absurd says
nobodys cut before r End none is says = absurd says
nobodys cut before r (Prepare global granules) none is says = absurd says
nobodys cut before r RollbackDecided none is says = absurd says

module _ (g : Geometry) (log : List LogRecord) (all : AreMeantKept g 0 log) where
  pub meant_or_nobodys : (n : ℕ) (r : LogRecord) → slice_get log n ≡ Some r → IsMeantOrNobodys g (take n log) r
  meant_or_nobodys n r at =
      let k = all n r at in
      ⊎_elim (λ none. inl (nobodys 0 (take n log) r r.payload none refl (k.now.of_nobody none).1)) (λ one. inr (is_meant g log n r at one k)) (one_or_none r.txn)

  -- of each transaction
  pub meant_of_each : (t : ℕ) → 0 < t → AreMeantOf g t log
  meant_of_each t one n r at own = is_meant g log n r at (subst (λ u. 0 < u) (sym own) one) (all n r at)

  pub prepares_once : PrepareOnce log
  prepares_once n r at is = ⊎_elim (λ none. absurd (true≢false (sym is ∙ none.no_prepare))) (λ meant. prepare_free g (take n log) r.txn r.payload is meant.says) (meant_or_nobodys n r at)

  pub doubts_run : (t : ℕ) → is_in_doubt t log ≡ true → IsUndecided log t
  doubts_run = by_each (IsMeantOrNobodys g) (λ rs. (t : ℕ) → is_in_doubt t rs ≡ true → IsUndecided rs t) (λ t h. cc) one_more log meant_or_nobodys
    where
      one_more : (rs : List LogRecord) (r : LogRecord) → IsMeantOrNobodys g rs r → ((t : ℕ) → is_in_doubt t rs ≡ true → IsUndecided rs t)
          → (t : ℕ) → is_in_doubt t (rs ++ r ∷ []) ≡ true → IsUndecided (rs ++ r ∷ []) t
      one_more rs r (inr meant) known t doubts = runs_behind g rs r meant known t doubts
      one_more rs r (inl none) known t doubts = ⊎_elim
          (λ own.
          let was : is_in_doubt t rs ≡ true = sym (doubt-by rs (rs ++ r ∷ []) t (has-not_this rs r is_prepare t none.no_prepare) (has-not_this rs r is_commit t none.no_commit) (has-not_this rs r is_rollback t none.no_rollback)) ∙ doubts in
          let some = (known t was).some in
          let zero = none.nobody in
          absurd (omega (arith, own, zero, some)))
          (λ ne. undecided_other rs r t ne (known t (sym (doubt_other rs r t ne) ∙ doubts)))
          (same_or_not r.txn t)
