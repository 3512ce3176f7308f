use Rattle.std.proofs.Common.{◌≡◌, List, ℕ, refl, sym, subst, ◌∙◌}
use Rattle.std.proofs.Math.Logic.{∥∥₁_elim, ∥∥₁_map₂, ∥∥₁_prop}
use Rattle.shore_types.specs.declared.layout.Geometry.{Geometry}
use Rattle.shore_disk.specs.Device.{size}
use Rattle.shore_world.specs.Managers.{LeadsToMoment}
use Rattle.shore_world.specs.Worlds.{geometry_in, history_in}
use Rattle.shore_held.proofs.Aims.{aimed}
use Rattle.shore_held.specs.Logs.{LeavesHeld}
use Rattle.shore_held.specs.Worlds.{begins_with}
use Rattle.shore_shared.proofs.HeldMoments.{leads}
use Rattle.shore_shared.proofs.laws.moments_are_stays.Goals as goal

pub returns : goal.returns
returns g c t cut kept old later stage anchored held come leaves aims geometry at_once stable_is low log_is now_is later_is o found es up =
    ∥∥₁_elim (aimed held.aim aims) ∥∥₁_prop (λ there. ∥∥₁_map₂ (come o found es up) (leaves o found es up) (λ x left.
    let h = x.0 in
    let same : geometry_in t.handed ≡ h.geometry = sym geometry ∙ h.is in
    subst (λ (f : List ℕ). LeadsToMoment t f up.last) h.is_front
    (leads t (begins_with up) cut kept old later stage anchored t.trail h x.1 x.2 held same refl x.4 stable_is low x.3 at_once there
    (subst (λ (y : Geometry). LeavesHeld y (size (history_in t.handed)) held t.log_later) same left) log_is now_is later_is)))
