use Rattle.std.proofs.Common.{refl}
use Rattle.laws_checkpoints.proofs.CheckpointSteps.{tail_no_lower}
use Rattle.laws_checkpoints.proofs.Points.{point_greatest, point_least}
use Rattle.laws_checkpoints.proofs.checkpoints.cut_points_are_least.Goals as goal

pub returns-clause-least : goal.returns-clause-least
returns-clause-least c k = point_least k

pub returns-clause-greatest : goal.returns-clause-greatest
returns-clause-greatest c k n le dirty txns = point_greatest k n le dirty txns

pub returns-clause-rises : goal.returns-clause-rises
returns-clause-rises c s next txns dirty k done tables = tail_no_lower s k next txns dirty done tables

pub returns-clause-all_is_flushed : goal.returns-clause-all_is_flushed
returns-clause-all_is_flushed c = refl

pub returns-clause-one_page_is_dirty : goal.returns-clause-one_page_is_dirty
returns-clause-one_page_is_dirty c p = refl
