use Rattle.std.proofs.Common.{IsPermutation}
use Rattle.shore_locks.proofs.Inventories.{below}
use Rattle.shore_locks.proofs.counted.Counted.all.Given as goal

abbrev pub invariant-loop-head : goal.invariant-loop-head
invariant-loop-head l = IsPermutation (below l.self-inside.nodes.heads l.head l.self-inside.nodes.requests) l.requests.items
