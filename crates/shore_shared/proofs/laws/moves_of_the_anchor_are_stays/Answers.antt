use Rattle.std.proofs.Common.{◌≡◌, List, ℕ, refl, sym, subst, ◌∙◌}
use Rattle.std.proofs.Math.Logic.{∥∥₁_map₂}
use Rattle.shore_types.specs.declared.layout.Geometry.{Geometry}
use Rattle.shore_disk.specs.Device.{size}
use Rattle.shore_world.specs.Managers.{LeadsToMoment}
use Rattle.shore_world.specs.Worlds.{geometry_in, history_in}
use Rattle.shore_held.specs.Logs.{LeavesByMove}
use Rattle.shore_held.specs.Worlds.{begins_with}
use Rattle.shore_shared.proofs.HeldMoments.{leads_amid}
use Rattle.shore_shared.proofs.laws.moves_of_the_anchor_are_stays.Goals as goal

pub returns : goal.returns
returns g c t cut kept core stage anchored held aim come leaves geometry none at_once aims stable_is low log_is now_is later_is o found es up =
    ∥∥₁_map₂ (come o found es up) (leaves o found es up) (λ h left.
    let same : geometry_in t.handed ≡ h.geometry = sym geometry ∙ h.is in
    subst (λ (f : List ℕ). LeadsToMoment t f up.last) h.is_front
    (leads_amid t (begins_with up) cut kept core stage anchored t.trail h held aim same refl none stable_is low at_once aims
    (subst (λ (y : Geometry). LeavesByMove y (size (history_in t.handed)) held.anchors held.stable aim held.history t.log_later) same left) log_is now_is later_is))
