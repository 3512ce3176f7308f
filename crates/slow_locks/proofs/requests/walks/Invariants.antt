use Rattle.std.proofs.Common.{drop}
use Rattle.slow_locks.proofs.WaitLemmas.{WalksOn}
use Rattle.slow_locks.proofs.requests.walks.Given as goal

abbrev pub invariant-loop-to : goal.invariant-loop-to
invariant-loop-to l = WalksOn l.requests l.end l.fn.start l.steps l.from (drop l.to-index l.steps)
