use Rattle.std.proofs.Common.{◌+◌}
use Rattle.shore_shared.proofs.Standing.{all_from_trail, stands}
use Rattle.shore_shared.proofs.client_laws.answers_stand_in_the_trail.Goals as goal

pub returns : goal.returns
returns g c noted so client jobs done told life = all_from_trail noted so.failed (client + 1) _ _ (stands (client + 1) noted) life.trail
