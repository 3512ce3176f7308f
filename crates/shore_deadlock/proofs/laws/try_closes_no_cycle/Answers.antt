use Rattle.shore_deadlock.proofs.LawLemmas.{try_keeps_free}
use Rattle.shore_deadlock.proofs.laws.try_closes_no_cycle.Goals as goal

pub returns : goal.returns
returns c = try_keeps_free
