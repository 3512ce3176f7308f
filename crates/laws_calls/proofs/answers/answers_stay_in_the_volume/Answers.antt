use Rattle.laws_calls.proofs.AnswersDone.{delete_outside, for_update_outside, lock_in_bad_mode, lock_outside, scan_outside, try_in_bad_mode, try_outside, update_outside}
use Rattle.laws_calls.proofs.answers.answers_stay_in_the_volume.Goals as goal

pub returns-clause-for_update_outside : goal.returns-clause-for_update_outside
returns-clause-for_update_outside d = for_update_outside

pub returns-clause-update_outside : goal.returns-clause-update_outside
returns-clause-update_outside d = update_outside

pub returns-clause-delete_outside : goal.returns-clause-delete_outside
returns-clause-delete_outside d = delete_outside

pub returns-clause-scan_outside : goal.returns-clause-scan_outside
returns-clause-scan_outside d = scan_outside

pub returns-clause-lock_outside : goal.returns-clause-lock_outside
returns-clause-lock_outside d = lock_outside

pub returns-clause-try_outside : goal.returns-clause-try_outside
returns-clause-try_outside d = try_outside

pub returns-clause-lock_in_bad_mode : goal.returns-clause-lock_in_bad_mode
returns-clause-lock_in_bad_mode d = lock_in_bad_mode

pub returns-clause-try_in_bad_mode : goal.returns-clause-try_in_bad_mode
returns-clause-try_in_bad_mode d = try_in_bad_mode
