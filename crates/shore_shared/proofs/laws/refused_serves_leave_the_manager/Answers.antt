use Rattle.shore_shared.proofs.LeftAlone.{led_nowhere, still_manager, still_up}
use Rattle.shore_shared.proofs.laws.refused_serves_leave_the_manager.Goals as goal

pub returns-clause-manager : goal.returns-clause-manager
returns-clause-manager g c old w o es ws k same = still_manager old w same o es ws k

pub returns-clause-up : goal.returns-clause-up
returns-clause-up g c old w o found es up same = still_up old w same o found es up

pub returns-clause-leg : goal.returns-clause-leg
returns-clause-leg g c old w same o found es up = ∣ led_nowhere old w same o found es up ∣₁
