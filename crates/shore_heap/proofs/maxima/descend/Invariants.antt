use Rattle.std.proofs.Common.{◌-◌, ◌<◌, get_or}
use Rattle.shore_heap.specs.Maxima.{Reaches}
use Rattle.shore_heap.proofs.maxima.descend.Given as goal

abbrev pub invariant-loop-node : goal.invariant-loop-node
invariant-loop-node l = record {
  reaches : Reaches l.tree l.leaves l.first l.number l.node;
  above : l.number < get_or l.tree l.node 0;
}

abbrev pub decreases-loop-node : goal.decreases-loop-node
decreases-loop-node l = l.leaves - l.node
