use Rattle.std.proofs.Math.Logic.{∥∥₁_map₂}
use Rattle.shore_held.proofs.Staging.{held_joined}
use Rattle.shore_held.proofs.log_held.LogHeld.force.Goals as goal

-- What the one step leaves, and then the other.
pub returns-clause-any_moment : goal.returns-clause-any_moment
returns-clause-any_moment g c start honest =
    let same = c.stage.ensures.same in
    ∥∥₁_map₂ (c.stage.ensures.any_moment start honest) (c.open.ensures.any_moment start honest)
    (held_joined c.args.self.now c.stage.new.self c.open.new.self.history same.0 same.2 same.3 c.stage.ensures.unforced same.7 c.in_ok-stage.ensures.unaimed)
