use Rattle.laws_runs.proofs.CheckpointCrashes.{leaves_behind}
use Rattle.laws_runs.proofs.checkpoints.crashes_leave_what_may_be_opened_behind_anchors.Goals as goal

pub returns : goal.returns
returns c g ring_bytes o found es m n left a k lost anchored = leaves_behind g ring_bytes o found es m k n left lost a anchored
