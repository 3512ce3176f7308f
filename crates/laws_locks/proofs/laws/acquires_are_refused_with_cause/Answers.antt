use Rattle.laws_locks.proofs.Acquired.{acquired_refused, try_waits_not}
use Rattle.laws_locks.proofs.laws.acquires_are_refused_with_cause.Goals as goal

pub returns-clause-refused : goal.returns-clause-refused
returns-clause-refused d = acquired_refused

pub returns-clause-waits : goal.returns-clause-waits
returns-clause-waits d = try_waits_not
