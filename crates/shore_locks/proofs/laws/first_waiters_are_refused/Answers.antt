use Rattle.shore_locks.proofs.LawLemmas.{first_refused}
use Rattle.shore_locks.proofs.laws.first_waiters_are_refused.Goals as goal

pub returns : goal.returns
returns c = first_refused
