use Rattle.std.proofs.Common.{ap, ◌∙◌}
use Rattle.shore_model.specs.declared.calls.Answer.TheVariants.{Scanned}
use Rattle.slow_histories.proofs.progress.is_scanned.Goals as goal

pub returns-in-Scanned : goal.returns-in-Scanned
returns-in-Scanned c = (λ h. c.in-Scanned.is ∙ ap Scanned (c.equals.ensures.0 h), λ e. c.equals.ensures.1 cc)
