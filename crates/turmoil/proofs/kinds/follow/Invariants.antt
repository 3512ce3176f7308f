use Rattle.std.proofs.Common.{◌≡◌, ◌≤◌}
use Rattle.turmoil.specs.Counts.{HasAddedNothing}
use Rattle.turmoil.proofs.kinds.follow.Given as goal

abbrev pub invariant-loop : goal.invariant-loop
invariant-loop g l = HasAddedNothing (g.C.Client.told l.fn.client) (g.C.Client.told l.client) × ((g.C.Client.known l.fn.client).durable ≤ (g.C.Client.known l.client).durable) × (l.notes.commits ≡ l.fn.notes.commits)
