use Rattle.shore_keys.specs.Exchanges.{GoesOn}
use Rattle.shore_keys.specs.Nexts.{Reads}
use Rattle.shore_keys.proofs.nexts.next.Given as goal

abbrev pub invariant-loop-step : goal.invariant-loop-step
invariant-loop-step g l = GoesOn (Reads l.fn.map.root l.fn.key l.bytes) (g.C.Caller.trail l.fn.client) (g.C.Caller.trail l.client)
