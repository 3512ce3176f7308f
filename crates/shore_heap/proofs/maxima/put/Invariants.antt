use Rattle.std.proofs.Common.{◌≡◌, ◌≢◌, ◌/◌, ◌*◌, ◌<◌, ◌≤◌, ℕ, get_or}
use Rattle.shore_heap.specs.Maxima.{IsGreater}
use Rattle.shore_heap.proofs.maxima.put.Given as goal

abbrev pub invariant-loop-node : goal.invariant-loop-node
invariant-loop-node l = record {
  from : 1 ≤ l.node;
  there : l.node < 2 * l.leaves;
  others : (k : ℕ) → 1 ≤ k → k < l.leaves → k ≢ l.node / 2 → IsGreater l.tree k;
  same : (k : ℕ) → l.leaves ≤ k → get_or l.tree k 0 ≡ get_or l.initial.tree k 0;
}

abbrev pub decreases-loop-node : goal.decreases-loop-node
decreases-loop-node l = l.node
