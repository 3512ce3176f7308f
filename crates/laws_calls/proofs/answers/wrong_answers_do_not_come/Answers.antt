use Rattle.laws_calls.proofs.WrongAnswers.{answer_after_failure, answer_in_no_txn, answer_unlocked, answer_while_waiting, begin_when_full, begin_without_room, commit_told_other, commit_unlogged, delete_of_none, delete_without_room, get_outside, get_that_changes, other_bytes, other_bytes_for_update, other_number, other_scan, second_begin, update_of_none, update_too_long, update_without_place, update_without_room}
use Rattle.laws_calls.proofs.answers.wrong_answers_do_not_come.Goals as goal

pub returns-clause-other_bytes : goal.returns-clause-other_bytes
returns-clause-other_bytes d = other_bytes

pub returns-clause-other_bytes_for_update : goal.returns-clause-other_bytes_for_update
returns-clause-other_bytes_for_update d = other_bytes_for_update

pub returns-clause-get_outside : goal.returns-clause-get_outside
returns-clause-get_outside d = get_outside

pub returns-clause-get_that_changes : goal.returns-clause-get_that_changes
returns-clause-get_that_changes d = get_that_changes

pub returns-clause-other_scan : goal.returns-clause-other_scan
returns-clause-other_scan d = other_scan

pub returns-clause-update_of_none : goal.returns-clause-update_of_none
returns-clause-update_of_none d = update_of_none

pub returns-clause-update_without_place : goal.returns-clause-update_without_place
returns-clause-update_without_place d = update_without_place

pub returns-clause-update_without_room : goal.returns-clause-update_without_room
returns-clause-update_without_room d = update_without_room

pub returns-clause-update_too_long : goal.returns-clause-update_too_long
returns-clause-update_too_long d = update_too_long

pub returns-clause-delete_of_none : goal.returns-clause-delete_of_none
returns-clause-delete_of_none d = delete_of_none

pub returns-clause-delete_without_room : goal.returns-clause-delete_without_room
returns-clause-delete_without_room d = delete_without_room

pub returns-clause-other_number : goal.returns-clause-other_number
returns-clause-other_number d = other_number

pub returns-clause-begin_without_room : goal.returns-clause-begin_without_room
returns-clause-begin_without_room d = begin_without_room

pub returns-clause-begin_when_full : goal.returns-clause-begin_when_full
returns-clause-begin_when_full d = begin_when_full

pub returns-clause-second_begin : goal.returns-clause-second_begin
returns-clause-second_begin d = second_begin

pub returns-clause-in_no_txn : goal.returns-clause-in_no_txn
returns-clause-in_no_txn d = answer_in_no_txn

pub returns-clause-while_waiting : goal.returns-clause-while_waiting
returns-clause-while_waiting d = answer_while_waiting

pub returns-clause-after_failure : goal.returns-clause-after_failure
returns-clause-after_failure d = answer_after_failure

pub returns-clause-commit_told_other : goal.returns-clause-commit_told_other
returns-clause-commit_told_other d = commit_told_other

pub returns-clause-commit_unlogged : goal.returns-clause-commit_unlogged
returns-clause-commit_unlogged d = commit_unlogged

pub returns-clause-unlocked : goal.returns-clause-unlocked
returns-clause-unlocked d = answer_unlocked
