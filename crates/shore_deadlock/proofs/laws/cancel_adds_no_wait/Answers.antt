use Rattle.shore_cycles.proofs.Steps.{cancelled_adds_none}
use Rattle.shore_deadlock.proofs.laws.cancel_adds_no_wait.Goals as goal

pub returns : goal.returns
returns c = cancelled_adds_none
