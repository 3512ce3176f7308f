use Rattle.laws_lives.proofs.Doomed.{commit_of_doomed}
use Rattle.laws_lives.proofs.WrongEvents.{absent_unlocked, before_savepoint, commit_in_rollback, commit_of_doubtful, doom_of_another, get_in_rollback, get_unlocked, insert_under_read_lock, lock_lost, lock_of_nobody, locks_clash, not_the_newest, other_back_to, other_savepoint, resolve_of_unanswered, same_global_id, scan_under_record_lock, second_txn, too_few_granules, undo_of_doubtful}
use Rattle.laws_lives.proofs.sessions.wrong_events_do_not_come.Goals as goal

pub returns-clause-get_unlocked : goal.returns-clause-get_unlocked
returns-clause-get_unlocked c most t n R id answer h = get_unlocked most t R n id answer h

pub returns-clause-absent_unlocked : goal.returns-clause-absent_unlocked
returns-clause-absent_unlocked c most t n R id less h = absent_unlocked most t R n id less h

pub returns-clause-insert_under_read_lock : goal.returns-clause-insert_under_read_lock
returns-clause-insert_under_read_lock c most t n R id s bytes h = insert_under_read_lock most t R n id s bytes h

pub returns-clause-scan_under_record_lock : goal.returns-clause-scan_under_record_lock
returns-clause-scan_under_record_lock c most t n R a b answer differ h = scan_under_record_lock most t R n a b answer differ h

pub returns-clause-second_txn : goal.returns-clause-second_txn
returns-clause-second_txn c s new session some step = second_txn s new session some step

pub returns-clause-lock_lost : goal.returns-clause-lock_lost
returns-clause-lock_lost c s new t m g among holds step = lock_lost s new t m g among holds step

pub returns-clause-locks_clash : goal.returns-clause-locks_clash
returns-clause-locks_clash c s new held t u id other w r step = locks_clash s new held t u id other w r step

pub returns-clause-lock_of_nobody : goal.returns-clause-lock_of_nobody
returns-clause-lock_of_nobody c s new h held among beyond step = lock_of_nobody s new h held among beyond step

pub returns-clause-commit_in_rollback : goal.returns-clause-commit_in_rollback
returns-clause-commit_in_rollback c s new a ticket rolls step = commit_in_rollback s new a ticket rolls step

pub returns-clause-get_in_rollback : goal.returns-clause-get_in_rollback
returns-clause-get_in_rollback c s new a id reply rolls step = get_in_rollback s new a id reply rolls step

pub returns-clause-other_savepoint : goal.returns-clause-other_savepoint
returns-clause-other_savepoint c s new a kept e n m rolls differ step = other_savepoint s new a kept e n m rolls differ step

pub returns-clause-other_back_to : goal.returns-clause-other_back_to
returns-clause-other_back_to c s new a n m reply rolls differ step = other_back_to s new a n m reply rolls differ step

pub returns-clause-not_the_newest : goal.returns-clause-not_the_newest
returns-clause-not_the_newest c s new a older kept newest e r is differ step = not_the_newest s new a older kept newest e r is differ step

pub returns-clause-before_savepoint : goal.returns-clause-before_savepoint
returns-clause-before_savepoint c s new a kept e n less step = before_savepoint s new a kept e n less step

pub returns-clause-commit_of_doomed : goal.returns-clause-commit_of_doomed
returns-clause-commit_of_doomed c s mid new a b ticket doom same step = commit_of_doomed s mid a b doom new ticket same step

pub returns-clause-doom_of_another : goal.returns-clause-doom_of_another
returns-clause-doom_of_another c s new a other step = doom_of_another s new a other step

pub returns-clause-commit_of_doubtful : goal.returns-clause-commit_of_doubtful
returns-clause-commit_of_doubtful c s new a ticket among step = commit_of_doubtful s new a ticket among step

pub returns-clause-undo_of_doubtful : goal.returns-clause-undo_of_doubtful
returns-clause-undo_of_doubtful c s new a kept e r among step = undo_of_doubtful s new a kept e r among step

pub returns-clause-resolve_of_unanswered : goal.returns-clause-resolve_of_unanswered
returns-clause-resolve_of_unanswered c s new a global none step = resolve_of_unanswered s new a global none step

pub returns-clause-same_global_id : goal.returns-clause-same_global_id
returns-clause-same_global_id c s new a global granules p among same step = same_global_id s new a global granules p among same step

pub returns-clause-too_few_granules : goal.returns-clause-too_few_granules
returns-clause-too_few_granules c s new a global granules h held own writes none step = too_few_granules s new a global granules h held own writes none step
