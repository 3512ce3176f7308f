use Rattle.laws_calls.proofs.WrongRefusals.{active_though_none, begin_full_though_room, busy_though_idle, commit_forces_none, commit_in_txn, failed_though_running, none_though_in_one, prepared_though_at_work, prepared_though_free, too_long_in_no_txn, too_many_below}
use Rattle.laws_calls.proofs.refusals.refusals_of_sessions_have_their_causes.Goals as goal

pub returns-clause-busy_though_idle : goal.returns-clause-busy_though_idle
returns-clause-busy_though_idle d = busy_though_idle

pub returns-clause-none_though_in_one : goal.returns-clause-none_though_in_one
returns-clause-none_though_in_one d = none_though_in_one

pub returns-clause-prepared_though_at_work : goal.returns-clause-prepared_though_at_work
returns-clause-prepared_though_at_work d = prepared_though_at_work

pub returns-clause-prepared_though_free : goal.returns-clause-prepared_though_free
returns-clause-prepared_though_free d = prepared_though_free

pub returns-clause-failed_though_running : goal.returns-clause-failed_though_running
returns-clause-failed_though_running d = failed_though_running

pub returns-clause-too_many_below : goal.returns-clause-too_many_below
returns-clause-too_many_below d = too_many_below

pub returns-clause-active_though_none : goal.returns-clause-active_though_none
returns-clause-active_though_none d = active_though_none

pub returns-clause-begin_full_though_room : goal.returns-clause-begin_full_though_room
returns-clause-begin_full_though_room d = begin_full_though_room

pub returns-clause-commit_in_txn : goal.returns-clause-commit_in_txn
returns-clause-commit_in_txn d = commit_in_txn

pub returns-clause-too_long_in_no_txn : goal.returns-clause-too_long_in_no_txn
returns-clause-too_long_in_no_txn d = too_long_in_no_txn

pub returns-clause-commit_forces_none : goal.returns-clause-commit_forces_none
returns-clause-commit_forces_none d = commit_forces_none
