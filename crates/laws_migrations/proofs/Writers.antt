-- Of an id that has one writer at most, two that have changed it and have not ended are one.
use Rattle.std.proofs.Common.{◌≡◌, inl, inr, ⊎_elim, ℕ, List, true, false, sym, ◌∙◌}
use Rattle.std.proofs.lemmas.Bool.{true≢false}
use Rattle.shore_types.specs.declared.ids.Rid.{Rid}
use Rattle.shore_model.specs.declared.log_records.LogRecord.{LogRecord}
use Rattle.shore_model.specs.Logs.{has, is_over}
use Rattle.laws_lives.specs.Writers.{HasOneWriterAtMost, changes_id}
use Rattle.laws_lives.proofs.Writers.{same_or_not}

pub one_writer : (log : List LogRecord) (id : Rid) (u v : ℕ) → has (changes_id id) u log ≡ true → is_over u log ≡ false → has (changes_id id) v log ≡ true → is_over v log ≡ false → HasOneWriterAtMost log id → u ≡ v
one_writer log id u v a b c d (inl none) = absurd (true≢false (sym (none.over u a) ∙ b))
one_writer log id u v a b c d (inr w) = ⊎_elim
    (λ same. ⊎_elim (λ also. same ∙ sym also) (λ other. absurd (true≢false (sym (w.1.others v other c) ∙ d))) (same_or_not v w.0))
    (λ other. absurd (true≢false (sym (w.1.others u other a) ∙ b)))
    (same_or_not u w.0)
