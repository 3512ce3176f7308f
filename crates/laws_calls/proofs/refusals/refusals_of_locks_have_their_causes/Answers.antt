use Rattle.laws_calls.proofs.LockRefusals.{bad_mode_though_allowed, blocked_though_free, blocked_though_may_wait, table_full_though_locked, table_full_though_placed}
use Rattle.laws_calls.proofs.refusals.refusals_of_locks_have_their_causes.Goals as goal

pub returns-clause-blocked_though_may_wait : goal.returns-clause-blocked_though_may_wait
returns-clause-blocked_though_may_wait d = blocked_though_may_wait

pub returns-clause-blocked_though_free : goal.returns-clause-blocked_though_free
returns-clause-blocked_though_free d = blocked_though_free

pub returns-clause-bad_mode_though_allowed : goal.returns-clause-bad_mode_though_allowed
returns-clause-bad_mode_though_allowed d = bad_mode_though_allowed

pub returns-clause-table_full_though_locked : goal.returns-clause-table_full_though_locked
returns-clause-table_full_though_locked d = table_full_though_locked

pub returns-clause-table_full_though_placed : goal.returns-clause-table_full_though_placed
returns-clause-table_full_though_placed d = table_full_though_placed
