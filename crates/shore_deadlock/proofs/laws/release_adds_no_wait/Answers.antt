use Rattle.shore_cycles.proofs.Steps.{released_adds_none}
use Rattle.shore_deadlock.proofs.laws.release_adds_no_wait.Goals as goal

pub returns : goal.returns
returns c = released_adds_none
