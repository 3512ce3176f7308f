use Rattle.shore_locks.proofs.LawLemmas.{released_own}
use Rattle.shore_locks.proofs.laws.release_removes_its_own.Goals as goal

pub returns : goal.returns
returns c = released_own
