use Rattle.shore_locks.proofs.Outcomes.{quiet_after_cancel}
use Rattle.shore_locks.proofs.laws.cancelled_waits_no_more.Goals as goal

pub returns : goal.returns
returns c = λ rs t. quiet_after_cancel t rs
