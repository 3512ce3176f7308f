use Rattle.std.proofs.Common.{◌≡◌, ℕ, length, map}
use Rattle.std.specs.Prelude.{slice_get}
use Rattle.shore_model.specs.declared.requests.Request.{Request}
use Rattle.shore_model.specs.Requests.{requests_at}
use Rattle.shore_nodes.specs.Tables.{waiters_at}
use Rattle.shore_locks.proofs.Firsts.{first_after}
use Rattle.shore_locks.proofs.searches.first_waiter.Given as goal

abbrev pub invariant-loop-request : goal.invariant-loop-request
invariant-loop-request l = first_after l.first_new (requests_at l.granule (map (λ (p : ℕ × Request). p.1) l.walk)) ≡ slice_get (waiters_at l.granule l.nodes.requests) 0

abbrev pub decreases-loop-request : goal.decreases-loop-request
decreases-loop-request l = length l.walk
