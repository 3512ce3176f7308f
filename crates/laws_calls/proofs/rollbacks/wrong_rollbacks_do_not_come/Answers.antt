use Rattle.laws_calls.proofs.WrongRollbacks.{abort_answered_other, abort_forgets, abort_logged, abort_unended, back_answered_other, back_to_forgets, back_to_none, back_to_unlogged, saved_beyond, saved_other, savepoint_that_changes}
use Rattle.laws_calls.proofs.rollbacks.wrong_rollbacks_do_not_come.Goals as goal

pub returns-clause-abort_forgets : goal.returns-clause-abort_forgets
returns-clause-abort_forgets d = abort_forgets

pub returns-clause-abort_unended : goal.returns-clause-abort_unended
returns-clause-abort_unended d = abort_unended

pub returns-clause-abort_logged : goal.returns-clause-abort_logged
returns-clause-abort_logged d = abort_logged

pub returns-clause-abort_answered_other : goal.returns-clause-abort_answered_other
returns-clause-abort_answered_other d = abort_answered_other

pub returns-clause-back_to_forgets : goal.returns-clause-back_to_forgets
returns-clause-back_to_forgets d = back_to_forgets

pub returns-clause-back_to_unlogged : goal.returns-clause-back_to_unlogged
returns-clause-back_to_unlogged d = back_to_unlogged

pub returns-clause-back_to_none : goal.returns-clause-back_to_none
returns-clause-back_to_none d = back_to_none

pub returns-clause-back_answered_other : goal.returns-clause-back_answered_other
returns-clause-back_answered_other d = back_answered_other

pub returns-clause-saved_other : goal.returns-clause-saved_other
returns-clause-saved_other d = saved_other

pub returns-clause-saved_beyond : goal.returns-clause-saved_beyond
returns-clause-saved_beyond d = saved_beyond

pub returns-clause-savepoint_that_changes : goal.returns-clause-savepoint_that_changes
returns-clause-savepoint_that_changes d = savepoint_that_changes
