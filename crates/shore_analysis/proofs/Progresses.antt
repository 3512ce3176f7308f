-- What a transaction's progress tells of the records that may follow.
use Rattle.std.proofs.Common.{◌≡◌, ℕ, List, [], Bool, true, false, cond, Option, Some, None, refl, sym, ap, ◌∙◌}
use Rattle.std.specs.Prelude.{IsTrue, not}
use Rattle.shore_model.specs.declared.log_records.LogRecord.{LogRecord}
use Rattle.shore_model.specs.Logs.{MayCommit, is_in_doubt, is_over, is_undoable, is_unprepared, last_of, unanswered, undo_next_of}
use Rattle.laws_lives.proofs.UndoChains.{unanswered_chain}
use Rattle.shore_analysis.specs.declared.progress.Progress.{Progress}
use Rattle.shore_analysis.specs.Passes.{is_decided, is_doubtful, is_free, phase_of, progress_at}
use Rattle.shore_analysis.proofs.Answered.{none_next}
use Rattle.shore_analysis.proofs.Phases.{commit_is, doubtful_is, free_is, undoable_is}

-- how far the transaction has come, and that it has not ended
pub record Tells (t : ℕ) (log : List LogRecord) (p : Progress) : Type 0 where
  pub runs : is_over t log ≡ false
  pub last : p.last ≡ last_of t log
  pub newest : p.newest ≡ undo_next_of (unanswered t log)
  pub phase : p.phase ≡ phase_of t log

abbrev now : ℕ → List LogRecord → Progress
now t log = record { last = last_of t log; newest = undo_next_of (unanswered t log); phase = phase_of t log }

pub told : (t : ℕ) (log : List LogRecord) (p : Progress) → Some p ≡ progress_at t log → Tells t log p
told t log p is = by (is_over t log) refl
  where
    value : Option Progress → Progress
    value None = p
    value (Some q) = q

    by : (b : Bool) → is_over t log ≡ b → Tells t log p
    by true over = absurd (let none : Some p ≡ None = is ∙ ap (λ b. cond b None (Some (now t log))) over in cc)
    by false runs =
        let same : p ≡ now t log = ap value (is ∙ ap (λ b. cond b None (Some (now t log))) runs) in
        record { runs = runs; last = ap (λ q. q.last) same; newest = ap (λ q. q.newest) same; phase = ap (λ q. q.phase) same }

module _ (t : ℕ) (log : List LogRecord) (p : Progress) (tells : Tells t log p) where
  pub free_told : is_free p.phase ≡ is_unprepared t log
  free_told = ap is_free tells.phase ∙ free_is t log

  pub doubtful_told : is_doubtful p.phase ≡ is_in_doubt t log
  doubtful_told = ap is_doubtful tells.phase ∙ doubtful_is t log

  pub undoable_told : not (is_doubtful p.phase) ≡ is_undoable t log
  undoable_told = ap not doubtful_told ∙ undoable_is t log tells.runs

  pub commit_told : IsTrue (not (is_decided p.phase)) → MayCommit log t
  commit_told h = sym (commit_is t log) ∙ ap (λ q. not (is_decided q)) (sym tells.phase) ∙ h

  pub commit_tells : MayCommit log t → IsTrue (not (is_decided p.phase))
  commit_tells may = ap (λ q. not (is_decided q)) tells.phase ∙ commit_is t log ∙ may

  pub nothing_next : p.newest ≡ 0 → unanswered t log ≡ []
  nothing_next none = none_next log t (unanswered t log) (unanswered_chain log t) (sym tells.newest ∙ none)
