use Rattle.std.proofs.Common.{Ok}
use Rattle.shore_keys.specs.Exchanges.{GoesOn}
use Rattle.shore_keys.specs.Maps.{Mends}
use Rattle.shore_keys.proofs.mending.mend.Given as goal

abbrev pub invariant-loop-mend : goal.invariant-loop-mend
invariant-loop-mend g l = GoesOn (Mends {A = Unit {0}} l.fn.map (Ok tt)) (g.C.Caller.trail l.fn.client) (g.C.Caller.trail l.client)
