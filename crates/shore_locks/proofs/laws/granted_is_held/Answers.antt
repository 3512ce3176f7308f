use Rattle.shore_locks.proofs.Answered.{granted_held}
use Rattle.shore_locks.proofs.laws.granted_is_held.Goals as goal

pub returns : goal.returns
returns c = granted_held
