use Rattle.shore_prog.specs.Counted.{AreCounted}
use Rattle.shore_prog.proofs.crew.add_all.Given as goal

abbrev pub invariant-loop : goal.invariant-loop
invariant-loop g l = AreCounted (g.C.Client.known l.client).durable l.counting.record l.counter (g.C.Client.told l.client)
