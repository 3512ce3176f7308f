use Rattle.shore_deadlock.proofs.LawLemmas.{release_keeps_free}
use Rattle.shore_deadlock.proofs.laws.release_closes_no_cycle.Goals as goal

pub returns : goal.returns
returns c = release_keeps_free
