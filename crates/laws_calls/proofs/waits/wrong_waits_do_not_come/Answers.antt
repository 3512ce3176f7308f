use Rattle.laws_calls.proofs.WrongWaits.{begin_waits, commit_waits, prepare_for_other_record, prepare_unlogged, resolve_for_other_record, resolve_unlogged, try_waits, waits_after_failure, waits_for_no_decision, waits_in_no_txn, waits_there, waits_though_free, waits_twice}
use Rattle.laws_calls.proofs.waits.wrong_waits_do_not_come.Goals as goal

pub returns-clause-of_a_commit : goal.returns-clause-of_a_commit
returns-clause-of_a_commit d = commit_waits

pub returns-clause-prepare_for_other_record : goal.returns-clause-prepare_for_other_record
returns-clause-prepare_for_other_record d = prepare_for_other_record

pub returns-clause-prepare_unlogged : goal.returns-clause-prepare_unlogged
returns-clause-prepare_unlogged d = prepare_unlogged

pub returns-clause-for_no_decision : goal.returns-clause-for_no_decision
returns-clause-for_no_decision d g s new session t c n none h = waits_for_no_decision g s new session t c n none h

pub returns-clause-though_free : goal.returns-clause-though_free
returns-clause-though_free d = waits_though_free

pub returns-clause-of_a_try : goal.returns-clause-of_a_try
returns-clause-of_a_try d = try_waits

pub returns-clause-of_a_begin : goal.returns-clause-of_a_begin
returns-clause-of_a_begin d = begin_waits

pub returns-clause-in_no_txn : goal.returns-clause-in_no_txn
returns-clause-in_no_txn d = waits_in_no_txn

pub returns-clause-after_failure : goal.returns-clause-after_failure
returns-clause-after_failure d = waits_after_failure

pub returns-clause-twice : goal.returns-clause-twice
returns-clause-twice d = waits_twice

pub returns-clause-there : goal.returns-clause-there
returns-clause-there d = waits_there

pub returns-clause-resolve_for_other_record : goal.returns-clause-resolve_for_other_record
returns-clause-resolve_for_other_record d = resolve_for_other_record

pub returns-clause-resolve_unlogged : goal.returns-clause-resolve_unlogged
returns-clause-resolve_unlogged d = resolve_unlogged
