use Rattle.std.proofs.Common.{◌≡◌, ◌<◌, ℕ, List, length, map, reverse}
use Rattle.shore_cycles.specs.Reached.{Chain, txn_at}
use Rattle.shore_cycles.proofs.reached.path_along.Given as goal

abbrev pub invariant-loop-at : goal.invariant-loop-at
invariant-loop-at l = record {
  within : l.at < length l.steps;
  so_far : (indices : List ℕ) × Chain l.steps l.at indices l.index × (reverse l.path.items ≡ map (txn_at l.steps) indices);
}

abbrev pub decreases-loop-at : goal.decreases-loop-at
decreases-loop-at l = l.at
