use Rattle.laws_locks.proofs.Acquired.{acquired_leaves}
use Rattle.laws_locks.proofs.laws.acquires_leave_requests_in_order.Goals as goal

pub returns : goal.returns
returns c on_conflict table t target mode orderly quiet rooted = acquired_leaves on_conflict table t target mode orderly quiet rooted
