use Rattle.std.proofs.Common.{◌≡◌, ℕ, length, map}
use Rattle.shore_model.specs.declared.requests.Request.{Request}
use Rattle.shore_nodes.specs.Tables.{request_for}
use Rattle.shore_locks.proofs.searches.request_for.Given as goal

abbrev pub invariant-loop-request : goal.invariant-loop-request
invariant-loop-request l = request_for l.txn l.granule (map (λ (p : ℕ × Request). p.1) l.walk) ≡ request_for l.txn l.granule l.nodes.requests

abbrev pub decreases-loop-request : goal.decreases-loop-request
decreases-loop-request l = length l.walk
