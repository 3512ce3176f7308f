use Rattle.std.proofs.Common.{◌≡◌, ℕ, length, map}
use Rattle.shore_model.specs.declared.requests.Request.{Request}
use Rattle.shore_locks.specs.Grants.{obstacle}
use Rattle.shore_locks.proofs.searches.obstacle.Given as goal

abbrev pub invariant-loop-other : goal.invariant-loop-other
invariant-loop-other l = obstacle l.waiter (map (λ (p : ℕ × Request). p.1) l.walk) ≡ obstacle l.waiter l.nodes.requests

abbrev pub decreases-loop-other : goal.decreases-loop-other
decreases-loop-other l = length l.walk
