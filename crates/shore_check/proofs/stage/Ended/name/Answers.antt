use Rattle.std.proofs.Common.{◌+◌, ◌∙◌, ap, length}
use Rattle.shore_types.specs.declared.layout.TheConstants.{FRAME_SHARE}
use Rattle.shore_model.specs.declared.log_records.LogRecord.{LogRecord}
use Rattle.shore_logrec.specs.Text.{text}
use Rattle.shore_check.proofs.Costs.{named_text}
use Rattle.shore_check.proofs.stage.Ended.name.Goals as goal

pub returns-clause-cost : goal.returns-clause-cost
returns-clause-cost c =
    ap (λ (r : LogRecord). FRAME_SHARE + length (text r)) c.of_checkpoint.ensures
    ∙ named_text _ _
