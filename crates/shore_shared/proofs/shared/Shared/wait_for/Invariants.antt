use Rattle.shore_shared.specs.Heard.{HasLooked}
use Rattle.shore_shared.proofs.shared.Shared.wait_for.Given as goal

abbrev pub invariant-loop : goal.invariant-loop
invariant-loop g l = (goal.iterator-loop g).can_next l.iterator' × (goal.iterator-loop g).is_finite l.iterator' × HasLooked l.fn.seat l.seat
