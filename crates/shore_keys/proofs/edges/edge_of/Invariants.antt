use Rattle.shore_keys.specs.Edges.{ComesBy}
use Rattle.shore_keys.specs.Exchanges.{GoesOn}
use Rattle.shore_keys.proofs.edges.edge_of.Given as goal

abbrev pub invariant-loop-step : goal.invariant-loop-step
invariant-loop-step g l = GoesOn (ComesBy l.fn.root l.fn.key l.at l.parent) (g.C.Caller.trail l.fn.client) (g.C.Caller.trail l.client)
