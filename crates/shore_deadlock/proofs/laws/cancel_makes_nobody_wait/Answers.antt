use Rattle.shore_cycles.proofs.Steps.{cancelled_keeps_quiet}
use Rattle.shore_deadlock.proofs.laws.cancel_makes_nobody_wait.Goals as goal

pub returns : goal.returns
returns c = cancelled_keeps_quiet
