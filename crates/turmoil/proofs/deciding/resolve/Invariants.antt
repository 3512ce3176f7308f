use Rattle.std.proofs.Common.{◌≡◌, ◌≤◌, ◌++◌, List}
use Rattle.shore_model.specs.declared.calls.Exchange.{Exchange}
use Rattle.turmoil.specs.Counts.{AreRefused, name_of}
use Rattle.turmoil.proofs.deciding.resolve.Given as goal

abbrev pub invariant-loop : goal.invariant-loop
invariant-loop g l = ((es : List Exchange) × (g.C.Client.told l.client ≡ g.C.Client.told l.fn.client ++ es) × AreRefused (name_of l.number l.turn) l.outcome es) × ((g.C.Client.known l.fn.client).durable ≤ (g.C.Client.known l.client).durable)
