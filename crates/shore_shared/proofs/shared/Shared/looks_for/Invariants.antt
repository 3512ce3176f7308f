use Rattle.std.proofs.Common.{◌≡◌, ◌≤◌}
use Rattle.shore_shared.proofs.shared.Shared.looks_for.Given as goal

abbrev pub invariant-loop : goal.invariant-loop
invariant-loop g l = (l.seat ≡ record l.fn.seat { seen = l.seat.seen }) × (l.fn.seat.seen ≤ l.seat.seen)
