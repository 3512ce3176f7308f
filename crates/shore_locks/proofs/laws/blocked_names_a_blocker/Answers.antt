use Rattle.shore_locks.proofs.Answered.{blocked_waits}
use Rattle.shore_locks.proofs.laws.blocked_names_a_blocker.Goals as goal

pub returns : goal.returns
returns c = blocked_waits
