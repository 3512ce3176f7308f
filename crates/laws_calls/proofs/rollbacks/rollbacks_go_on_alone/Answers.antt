use Rattle.laws_calls.proofs.WrongRollbacks.{no_answer_in_rollback, no_other_way, no_wait_in_rollback}
use Rattle.laws_calls.proofs.rollbacks.rollbacks_go_on_alone.Goals as goal

pub returns-clause-answered : goal.returns-clause-answered
returns-clause-answered d = no_answer_in_rollback

pub returns-clause-waits : goal.returns-clause-waits
returns-clause-waits d = no_wait_in_rollback

pub returns-clause-other_way : goal.returns-clause-other_way
returns-clause-other_way d = no_other_way
