use Rattle.std.proofs.Common.{◌≡◌, ◌<◌, ◌++◌, ℕ, List, length, map}
use Rattle.std.specs.Prelude.{◌^◌}
use Rattle.shore_model.specs.declared.requests.Request.{Request}
use Rattle.shore_nodes.specs.Tallies.{Counts}
use Rattle.shore_nodes.proofs.tallies.tally_of.Given as goal

abbrev pub invariant-loop-request : goal.invariant-loop-request
invariant-loop-request l =
    length l.fn.walk < 2 ^ 64 → (done : List Request) × Counts l.tally done × (done ++ map (λ (p : ℕ × Request). p.1) l.walk ≡ map (λ (p : ℕ × Request). p.1) l.fn.walk)

abbrev pub decreases-loop-request : goal.decreases-loop-request
decreases-loop-request l = length l.walk
