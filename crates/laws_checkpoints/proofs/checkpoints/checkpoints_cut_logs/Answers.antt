use Rattle.std.proofs.Common.{refl}
use Rattle.laws_checkpoints.proofs.WorkedCheckpoint.{anchor_moved, crossed, made, missed}
use Rattle.laws_checkpoints.proofs.checkpoints.checkpoints_cut_logs.Goals as goal

pub returns-clause-flushed : goal.returns-clause-flushed
returns-clause-flushed c bytes = (anchor_moved bytes, made bytes, refl, refl)

pub returns-clause-crosses : goal.returns-clause-crosses
returns-clause-crosses c bytes = crossed bytes

pub returns-clause-wants_its_end : goal.returns-clause-wants_its_end
returns-clause-wants_its_end c bytes h = missed bytes h
