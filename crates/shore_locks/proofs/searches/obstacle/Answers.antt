use Rattle.std.proofs.Common.{ap}
use Rattle.std.specs.Prelude.{find}
use Rattle.shore_locks.specs.Grants.{is_stopped_by}
use Rattle.shore_locks.proofs.searches.obstacle.Goals as goal

pub loop-other-init : goal.loop-other-init
loop-other-init c = ap (find (is_stopped_by c.args.waiter.now)) c.queue-walk.ensures
