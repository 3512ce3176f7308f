use Rattle.shore_heap.specs.Maxima.{Reaches}
use Rattle.shore_heap.proofs.maxima.climb.Given as goal

abbrev pub invariant-loop-node : goal.invariant-loop-node
invariant-loop-node l = Reaches l.tree l.leaves l.first l.number l.node

abbrev pub decreases-loop-node : goal.decreases-loop-node
decreases-loop-node l = l.node
