use Rattle.shore_locks.proofs.Answered.{stays_quiet}
use Rattle.shore_locks.proofs.laws.waits_only_if_told_to.Goals as goal

pub returns : goal.returns
returns c = stays_quiet
