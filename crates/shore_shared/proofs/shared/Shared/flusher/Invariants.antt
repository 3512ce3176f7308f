use Rattle.std.proofs.Common.{◌≡◌}
use Rattle.shore_shared.proofs.shared.Shared.flusher.Given as goal

abbrev pub invariant-loop : goal.invariant-loop
invariant-loop g l = (goal.iterator-loop g).can_next l.iterator' × (goal.iterator-loop g).is_finite l.iterator' × (l.seat ≡ record l.fn.seat { stopped = l.seat.stopped })
