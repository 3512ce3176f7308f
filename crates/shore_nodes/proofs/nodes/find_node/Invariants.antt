use Rattle.std.proofs.Common.{◌≡◌, ℕ, length}
use Rattle.std.specs.Prelude.{find}
use Rattle.shore_model.specs.declared.requests.Request.{Request}
use Rattle.shore_model.specs.Requests.{are_alike}
use Rattle.shore_nodes.proofs.nodes.find_node.Given as goal

abbrev pub invariant-loop-node : goal.invariant-loop-node
invariant-loop-node l = find (λ (p : ℕ × Request). are_alike p.1 l.request) l.walk ≡ find (λ (p : ℕ × Request). are_alike p.1 l.request) l.fn.walk

abbrev pub decreases-loop-node : goal.decreases-loop-node
decreases-loop-node l = length l.walk
