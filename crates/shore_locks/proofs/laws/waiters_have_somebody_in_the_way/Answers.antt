use Rattle.shore_locks.proofs.Blocked.{has_somebody, somebody_awaited}
use Rattle.shore_locks.proofs.laws.waiters_have_somebody_in_the_way.Goals as goal

pub returns-clause-somebody : goal.returns-clause-somebody
returns-clause-somebody c = λ rs t r orderly is. has_somebody rs orderly t r is

pub returns-clause-awaited : goal.returns-clause-awaited
returns-clause-awaited c = somebody_awaited
