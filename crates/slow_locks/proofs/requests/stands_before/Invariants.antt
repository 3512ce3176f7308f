use Rattle.std.proofs.Common.{drop}
use Rattle.shore_model.specs.Requests.{Before}
use Rattle.slow_locks.proofs.requests.stands_before.Given as goal

-- they are not found so far
abbrev pub invariant-loop-index : goal.invariant-loop-index
invariant-loop-index l = Before l.queue l.first l.second → Before (drop l.index l.queue) l.first l.second
