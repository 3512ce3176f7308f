use Rattle.std.proofs.Common.{◌≡◌, ℕ, List, [], ◌∷◌, arith}
use Rattle.std.proofs.Math.Logic.{∥∥₁_elim}
use Rattle.shore_shared.specs.Told.{AreClaimed, Shown}
use Rattle.shore_shared.proofs.worked.jobs_that_were_not_done.Goals as goal

first_of_others : (b : Shown) (between : List Shown) → AreClaimed {D = ℕ} (λ client d told seen. 0 ≡ d) 0 (b ∷ []) (1 ∷ []) between → ⊥
first_of_others b [] is = is
first_of_others b (a ∷ later) is = ∥∥₁_elim is.0.2 (λ x y. absurd x) (λ t. absurd (omega (arith, t.2)))

pub returns-clause-order : goal.returns-clause-order
returns-clause-order g _ b after is = first_of_others b is.0 is.1
