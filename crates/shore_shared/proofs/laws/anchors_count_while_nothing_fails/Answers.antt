use Rattle.std.proofs.Common.{◌++◌}
use Rattle.shore_shared.proofs.Lives.{its_anchor_counts, up_again}
use Rattle.shore_shared.proofs.laws.anchors_count_while_nothing_fails.Goals as goal

pub returns : goal.returns
returns g c start cut kept asked stepped w ended =
    its_anchor_counts w start.opening start.found (start.earlier ++ ended.come_by.made) (up_again cut kept asked stepped w ended)
