use Rattle.shore_cycles.proofs.Steps.{released_keeps_quiet}
use Rattle.shore_deadlock.proofs.laws.release_makes_nobody_wait.Goals as goal

pub returns : goal.returns
returns c = released_keeps_quiet
