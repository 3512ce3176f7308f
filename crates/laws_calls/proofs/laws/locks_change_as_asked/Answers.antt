use Rattle.laws_calls.proofs.AskedLocks.{abort_gone, call_changes, commit_gone, commit_keeps, prepare_leaves_locks, resume_changes}
use Rattle.laws_calls.proofs.ResolveLocks.{resolve_gone, resolve_leaves_locks}
use Rattle.laws_calls.proofs.WrongPrepares.{in_place_then}
use Rattle.laws_calls.proofs.laws.locks_change_as_asked.Goals as goal

pub returns-clause-calls : goal.returns-clause-calls
returns-clause-calls d g o found es old new session c step k h = call_changes g o found es old k session c step new h

pub returns-clause-resumes : goal.returns-clause-resumes
returns-clause-resumes d g o found es old new w step k h = resume_changes g o found es old k w step new h

pub returns-clause-commit : goal.returns-clause-commit
returns-clause-commit d g o found es old new session f k h = commit_keeps g o found es old k session f new h

pub returns-clause-told_abort : goal.returns-clause-told_abort
returns-clause-told_abort d g o found es old new session answer k h = abort_gone g o found es old k session answer new h

pub returns-clause-told_commit : goal.returns-clause-told_commit
returns-clause-told_commit d g o found es old new session answer k h = commit_gone g o found es old k session answer new h

pub returns-clause-told_prepare : goal.returns-clause-told_prepare
returns-clause-told_prepare d g old new w n is h = prepare_leaves_locks g old w n new is h

pub returns-clause-prepare : goal.returns-clause-prepare
returns-clause-prepare d g old new session global step h = (in_place_then g old new session global step h).2

pub returns-clause-told_resolve : goal.returns-clause-told_resolve
returns-clause-told_resolve d g old new w n is h = resolve_leaves_locks g old w n new is h

pub returns-clause-resolve : goal.returns-clause-resolve
returns-clause-resolve d g o found es old new session global asked step k some h = resolve_gone g o found es old k session global asked step new some h
