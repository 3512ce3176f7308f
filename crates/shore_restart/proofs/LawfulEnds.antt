-- Where a lawful log may be cut off, who has a record that is cut off has ended, and runs by the others no more.
use Rattle.std.proofs.Common.{ℕ, List, sym, ◌∙◌}
use Rattle.std.proofs.lemmas.Bool.{true≢false}
use Rattle.shore_model.specs.declared.log_records.LogRecord.{LogRecord}
use Rattle.shore_model.specs.Logs.{Lawful, has, is_commit, is_prepare, is_rollback}
use Rattle.laws_lives.specs.Pages.{LoggedPages}
use Rattle.laws_lives.proofs.LawfulPrepares.{prepared_is_one}
use Rattle.laws_lives.proofs.WritersTold.{in_doubt_parts}
use Rattle.laws_checkpoints.specs.KeptLogs.{MayBeCut}
use Rattle.laws_checkpoints.proofs.Kept.{kept_unended}
use Rattle.shore_restart.specs.Anchors.{EndsBehind}

pub ends_behind : (log : List LogRecord) (volume : LoggedPages) (cut : ℕ) → Lawful log → MayBeCut log volume cut → EndsBehind cut log
ends_behind log volume cut lawful may = record {
  cuts = (may.within, may.ended);
  none_runs = λ t one some runs. true≢false (sym (may.ended t one some) ∙ (kept_unended log lawful volume cut may t runs).1);
  some = λ t doubt. prepared_is_one log lawful t (in_doubt_parts (has is_prepare t log) (has is_commit t log) (has is_rollback t log) doubt).0;
}
