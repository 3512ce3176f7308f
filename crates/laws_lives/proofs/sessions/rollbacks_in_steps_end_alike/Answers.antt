use Rattle.laws_lives.proofs.RollingBack.{abort_alike, back_leaves_alike}
use Rattle.laws_lives.proofs.sessions.rollbacks_in_steps_end_alike.Goals as goal

pub returns-clause-abort : goal.returns-clause-abort
returns-clause-abort c t R log undo kept e is = abort_alike t R log undo kept e is

pub returns-clause-back_to : goal.returns-clause-back_to
returns-clause-back_to c t R log undo kept e n answer is less least = back_leaves_alike t R log undo kept e is n less least answer
