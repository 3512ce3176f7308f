use Rattle.shore_deadlock.proofs.LawLemmas.{cancel_keeps_free}
use Rattle.shore_deadlock.proofs.laws.cancel_closes_no_cycle.Goals as goal

pub returns : goal.returns
returns c = cancel_keeps_free
