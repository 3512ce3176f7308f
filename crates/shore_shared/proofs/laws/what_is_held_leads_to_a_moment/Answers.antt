use Rattle.shore_shared.proofs.HeldMoments.{leads}
use Rattle.shore_shared.proofs.laws.what_is_held_leads_to_a_moment.Goals as goal

pub returns : goal.returns
returns g c t start cut kept old later stage anchored trail h plain last held geometry trail_is step_is stable_is low step at_once aims leaves log_is now_is later_is =
    leads t start cut kept old later stage anchored trail h plain last held geometry trail_is step_is stable_is low step at_once aims leaves log_is now_is later_is
