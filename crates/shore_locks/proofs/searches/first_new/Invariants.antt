use Rattle.std.proofs.Common.{◌≡◌, ℕ, length, map}
use Rattle.std.specs.Prelude.{slice_get}
use Rattle.shore_model.specs.declared.requests.Request.{Request}
use Rattle.shore_nodes.specs.Granting.{new_waiters}
use Rattle.shore_locks.proofs.searches.first_new.Given as goal

abbrev pub invariant-loop-request : goal.invariant-loop-request
invariant-loop-request l = slice_get (new_waiters l.granule (map (λ (p : ℕ × Request). p.1) l.walk)) 0 ≡ slice_get (new_waiters l.granule l.nodes.requests) 0

abbrev pub decreases-loop-request : goal.decreases-loop-request
decreases-loop-request l = length l.walk
