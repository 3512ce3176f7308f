use Rattle.shore_locks.proofs.Answered.{only_grants}
use Rattle.shore_locks.proofs.laws.grant_pass_only_grants.Goals as goal

pub returns : goal.returns
returns c = only_grants
