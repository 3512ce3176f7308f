use Rattle.laws_locks.proofs.Held.{locked_of}
use Rattle.laws_locks.proofs.laws.reached_granules_are_locked.Goals as goal

pub returns : goal.returns
returns c rs t g mode reached = locked_of rs t g mode reached
