use Rattle.std.proofs.Common.{ap}
use Rattle.shore_locks.specs.Grants.{can_be_granted}
use Rattle.shore_locks.proofs.searches.can_be_granted.Goals as goal

pub loop-other-init : goal.loop-other-init
loop-other-init c = ap (can_be_granted c.args.waiter.now) c.queue-walk.ensures
