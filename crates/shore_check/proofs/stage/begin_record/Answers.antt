use Rattle.std.proofs.Common.{◌+◌, ◌∙◌, ap, length}
use Rattle.shore_types.specs.declared.layout.TheConstants.{FRAME_SHARE}
use Rattle.shore_model.specs.declared.log_records.LogRecord.{LogRecord}
use Rattle.shore_logrec.specs.Text.{text}
use Rattle.shore_check.proofs.Costs.{begin_text}
use Rattle.shore_check.proofs.stage.begin_record.Goals as goal

pub returns-clause-cost : goal.returns-clause-cost
returns-clause-cost c = ap (λ (r : LogRecord). FRAME_SHARE + length (text r)) c.of_checkpoint.ensures ∙ begin_text
