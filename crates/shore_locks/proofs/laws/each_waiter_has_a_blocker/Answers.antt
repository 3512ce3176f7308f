use Rattle.shore_locks.proofs.Answered.{waiting_waits}
use Rattle.shore_locks.proofs.laws.each_waiter_has_a_blocker.Goals as goal

pub returns : goal.returns
returns c = waiting_waits
