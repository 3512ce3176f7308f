use Rattle.std.proofs.Common.{Ok}
use Rattle.shore_keys.specs.Exchanges.{GoesOn}
use Rattle.shore_keys.specs.Splits.{Splits}
use Rattle.shore_keys.proofs.puts.roomy.Given as goal

abbrev pub invariant-loop-split : goal.invariant-loop-split
invariant-loop-split g l = GoesOn (Splits l.fn.map l.fn.home l.fn.key (Ok l.at)) (g.C.Caller.trail l.fn.client) (g.C.Caller.trail l.client)
