use Rattle.laws_calls.proofs.AnswersDone.{begin_left_out, begin_unnumbered, delete_answered_other, delete_left_out, delete_unlogged, insert_without_slot, lock_answered_other, try_answered_other, update_answered_other, update_left_out, update_unlogged}
use Rattle.laws_calls.proofs.answers.answers_are_done.Goals as goal

pub returns-clause-begin_left_out : goal.returns-clause-begin_left_out
returns-clause-begin_left_out d = begin_left_out

pub returns-clause-begin_unnumbered : goal.returns-clause-begin_unnumbered
returns-clause-begin_unnumbered d = begin_unnumbered

pub returns-clause-update_left_out : goal.returns-clause-update_left_out
returns-clause-update_left_out d = update_left_out

pub returns-clause-update_unlogged : goal.returns-clause-update_unlogged
returns-clause-update_unlogged d = update_unlogged

pub returns-clause-update_answered_other : goal.returns-clause-update_answered_other
returns-clause-update_answered_other d = update_answered_other

pub returns-clause-delete_left_out : goal.returns-clause-delete_left_out
returns-clause-delete_left_out d = delete_left_out

pub returns-clause-delete_unlogged : goal.returns-clause-delete_unlogged
returns-clause-delete_unlogged d = delete_unlogged

pub returns-clause-delete_answered_other : goal.returns-clause-delete_answered_other
returns-clause-delete_answered_other d = delete_answered_other

pub returns-clause-insert_without_slot : goal.returns-clause-insert_without_slot
returns-clause-insert_without_slot d = insert_without_slot

pub returns-clause-lock_answered_other : goal.returns-clause-lock_answered_other
returns-clause-lock_answered_other d = lock_answered_other

pub returns-clause-try_answered_other : goal.returns-clause-try_answered_other
returns-clause-try_answered_other d = try_answered_other
