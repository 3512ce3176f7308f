use Rattle.std.proofs.Common.{◌++◌}
use Rattle.shore_shared.proofs.Lives.{all_stand, up_again}
use Rattle.shore_shared.proofs.laws.worlds_behind_threads_stand.Goals as goal

pub returns : goal.returns
returns g c start cut kept asked stepped w ended = all_stand w start.opening start.found (start.earlier ++ ended.come_by.made) (up_again cut kept asked stepped w ended)
