use Rattle.laws_calls.proofs.DeadlockRun.{deadlock_comes_through}
use Rattle.laws_calls.proofs.settling.a_deadlock_comes_through.Goals as goal

pub returns : goal.returns
returns d = deadlock_comes_through
