use Rattle.std.proofs.Common.{◌≡◌, ◌==◌, ℕ, length}
use Rattle.std.specs.Prelude.{find}
use Rattle.shore_model.specs.declared.requests.Request.{Request}
use Rattle.shore_nodes.proofs.nodes.first_of.Given as goal

abbrev pub invariant-loop-node : goal.invariant-loop-node
invariant-loop-node l = find (λ (p : ℕ × Request). p.1.txn == l.txn) l.walk ≡ find (λ (p : ℕ × Request). p.1.txn == l.txn) l.fn.walk

abbrev pub decreases-loop-node : goal.decreases-loop-node
decreases-loop-node l = length l.walk
