use Rattle.shore_pool.specs.Batches.{IsChosen}
use Rattle.shore_pool.proofs.pool.Pool.due.Given as goal

abbrev pub invariant-loop : goal.invariant-loop
invariant-loop g l = IsChosen l.self l.from l.durable l.pages.items l.next l.counter
