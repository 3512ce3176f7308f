use Rattle.laws_checkpoints.proofs.CheckpointSteps.{cut_now}
use Rattle.laws_checkpoints.proofs.Crashes.{left_in_order}
use Rattle.laws_checkpoints.proofs.checkpoints.crashes_leave_what_may_be_cut.Goals as goal

pub returns-clause-left : goal.returns-clause-left
returns-clause-left c s n left k more most may = left_in_order s k n left more most may

pub returns-clause-now : goal.returns-clause-now
returns-clause-now c s k = cut_now s k
