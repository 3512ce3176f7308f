use Rattle.shore_locks.proofs.AtOnce.{nobody_to_grant}
use Rattle.shore_locks.proofs.laws.grant_leaves_nobody_to_grant.Goals as goal

pub returns : goal.returns
returns c = nobody_to_grant
