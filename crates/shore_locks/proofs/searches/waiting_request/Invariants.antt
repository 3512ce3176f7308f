use Rattle.std.proofs.Common.{◌≡◌, ℕ, length, map}
use Rattle.shore_model.specs.declared.requests.Request.{Request}
use Rattle.shore_nodes.specs.Tables.{waiting_request}
use Rattle.shore_locks.proofs.searches.waiting_request.Given as goal

abbrev pub invariant-loop-request : goal.invariant-loop-request
invariant-loop-request l = waiting_request l.txn (map (λ (p : ℕ × Request). p.1) l.walk) ≡ waiting_request l.txn l.nodes.requests

abbrev pub decreases-loop-request : goal.decreases-loop-request
decreases-loop-request l = length l.walk
