use Rattle.shore_shared.proofs.Lives.{up_again}
use Rattle.shore_shared.proofs.laws.worlds_behind_threads_are_up.Goals as goal

pub returns : goal.returns
returns g c start cut kept asked stepped w ended = up_again cut kept asked stepped w ended
