use Rattle.std.proofs.Common.{◌≡◌, ◌<◌, ◌++◌, ℕ, List, length, map}
use Rattle.std.specs.Prelude.{◌^◌}
use Rattle.shore_model.specs.declared.requests.Request.{Request}
use Rattle.shore_model.specs.Requests.{requests_at}
use Rattle.shore_nodes.specs.Tallies.{Counts}
use Rattle.shore_nodes.proofs.tallies.tally_at.Given as goal

abbrev pub invariant-loop-one : goal.invariant-loop-one
invariant-loop-one l =
    length (requests_at l.granule (map (λ (p : ℕ × Request). p.1) l.fn.walk)) < 2 ^ 64
    → (done : List Request) × Counts l.tally done × (done ++ requests_at l.granule (map (λ (p : ℕ × Request). p.1) l.walk) ≡ requests_at l.granule (map (λ (p : ℕ × Request). p.1) l.fn.walk))

abbrev pub decreases-loop-one : goal.decreases-loop-one
decreases-loop-one l = length l.walk
