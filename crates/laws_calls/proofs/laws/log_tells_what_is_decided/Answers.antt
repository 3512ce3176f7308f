use Rattle.std.proofs.Common.{sym}
use Rattle.laws_calls.proofs.SessionTells.{all_shown, all_told, call_tells, own_in_place, resolve_tells, resume_tells_none, session_call_tells_none, sessions_told}
use Rattle.laws_calls.proofs.laws.log_tells_what_is_decided.Goals as goal

pub returns-clause-decided : goal.returns-clause-decided
returns-clause-decided d o found es s k = sessions_told o found es s k

pub returns-clause-shown : goal.returns-clause-shown
returns-clause-shown d o found es s k = all_shown o found es s k

pub returns-clause-doubts : goal.returns-clause-doubts
returns-clause-doubts d o found es s k = sym k.sessions.agree.in_doubt

pub returns-clause-in_place : goal.returns-clause-in_place
returns-clause-in_place d o found es s k none = all_told o found es s k none

pub returns-clause-call : goal.returns-clause-call
returns-clause-call d g o found es old new session c step k h no_commit other = session_call_tells_none o found es old k g session c step new h no_commit other

pub returns-clause-resume : goal.returns-clause-resume
returns-clause-resume d g o found es old new session step k h = resume_tells_none o found es old k g session step new h

pub returns-clause-commit : goal.returns-clause-commit
returns-clause-commit d g o found es old new session answer k h = call_tells o found es old k g session answer new h

pub returns-clause-own : goal.returns-clause-own
returns-clause-own d o found es s a id k mem whole some = own_in_place o found es s k a mem whole id some

pub returns-clause-resolve : goal.returns-clause-resolve
returns-clause-resolve d g o found es old new session n global k h = resolve_tells o found es old k g session n global new h
