use Rattle.laws_calls.proofs.WrongPrepares.{bad_though_good, full_though_room, no_bad_id, no_lack_of_room, no_rollback_prepares, no_used_id, none_twice, used_though_unused}
use Rattle.laws_calls.proofs.prepares.wrong_prepares_do_not_come.Goals as goal

pub returns-clause-bad_id : goal.returns-clause-bad_id
returns-clause-bad_id d g s new session global wait bad h = no_bad_id g s new session global wait h bad

pub returns-clause-id_in_use : goal.returns-clause-id_in_use
returns-clause-id_in_use d g s new session global wait used h = no_used_id g s new session global wait h used

pub returns-clause-without_room : goal.returns-clause-without_room
returns-clause-without_room d g s new session global wait full h = no_lack_of_room g s new session global wait h full

pub returns-clause-in_a_rollback : goal.returns-clause-in_a_rollback
returns-clause-in_a_rollback d g s new session global wait rolls h = no_rollback_prepares g s new session global wait h rolls

pub returns-clause-twice : goal.returns-clause-twice
returns-clause-twice d g s new session global wait was h = none_twice g s new session global wait h was

pub returns-clause-bad_though_good : goal.returns-clause-bad_though_good
returns-clause-bad_though_good d = bad_though_good

pub returns-clause-in_use_though_unused : goal.returns-clause-in_use_though_unused
returns-clause-in_use_though_unused d = used_though_unused

pub returns-clause-log_full_though_room : goal.returns-clause-log_full_though_room
returns-clause-log_full_though_room d = full_though_room
