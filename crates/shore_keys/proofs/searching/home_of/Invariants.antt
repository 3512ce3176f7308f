use Rattle.shore_keys.specs.Exchanges.{GoesOn}
use Rattle.shore_keys.specs.Steps.{Comes}
use Rattle.shore_keys.proofs.searching.home_of.Given as goal

abbrev pub invariant-loop-step : goal.invariant-loop-step
invariant-loop-step g l = GoesOn (Comes l.fn.root l.fn.key l.at) (g.C.Caller.trail l.fn.client) (g.C.Caller.trail l.client)
