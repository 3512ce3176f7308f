use Rattle.std.proofs.Common.{◌≤◌}
use Rattle.turmoil.specs.Commits.{HasCommittedNothing}
use Rattle.turmoil.proofs.kinds.roll_back.Given as goal

abbrev pub invariant-loop : goal.invariant-loop
invariant-loop g l = HasCommittedNothing (g.C.Client.told l.fn.client) (g.C.Client.told l.client) × ((g.C.Client.known l.fn.client).durable ≤ (g.C.Client.known l.client).durable)
