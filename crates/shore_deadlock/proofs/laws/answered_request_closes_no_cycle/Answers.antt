use Rattle.shore_deadlock.proofs.LawLemmas.{answered_keeps_free}
use Rattle.shore_deadlock.proofs.laws.answered_request_closes_no_cycle.Goals as goal

pub returns : goal.returns
returns c = answered_keeps_free
