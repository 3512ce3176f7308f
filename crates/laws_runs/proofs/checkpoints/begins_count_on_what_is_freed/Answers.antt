use Rattle.laws_runs.proofs.StageSteps.{counts_on_durable, counts_on_freed}
use Rattle.laws_runs.proofs.checkpoints.begins_count_on_what_is_freed.Goals as goal

pub returns-clause-freed : goal.returns-clause-freed
returns-clause-freed x m c kept_from now = counts_on_freed m c kept_from now

pub returns-clause-durable : goal.returns-clause-durable
returns-clause-durable x m c kept_from now = counts_on_durable m c kept_from now
