use Rattle.std.proofs.Common.{◌≡◌, ℕ, length, map}
use Rattle.shore_model.specs.declared.requests.Request.{Request}
use Rattle.shore_model.specs.Requests.{requests_at}
use Rattle.shore_locks.specs.Grants.{can_be_granted}
use Rattle.shore_locks.proofs.searches.can_be_granted.Given as goal

abbrev pub invariant-loop-other : goal.invariant-loop-other
invariant-loop-other l = can_be_granted l.waiter (requests_at l.waiter.granule (map (λ (p : ℕ × Request). p.1) l.walk)) ≡ can_be_granted l.waiter (requests_at l.waiter.granule l.nodes.requests)

abbrev pub decreases-loop-other : goal.decreases-loop-other
decreases-loop-other l = length l.walk
