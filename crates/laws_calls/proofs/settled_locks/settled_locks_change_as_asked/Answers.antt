use Rattle.laws_calls.proofs.SettledLocks.{settled_call_locks, settled_resume_locks}
use Rattle.laws_calls.proofs.settled_locks.settled_locks_change_as_asked.Goals as goal

pub returns-clause-call : goal.returns-clause-call
returns-clause-call d g o found es s new session c step k h = settled_call_locks g o found es s k session c step new h

pub returns-clause-resume : goal.returns-clause-resume
returns-clause-resume d g o found es s new session step k there h = settled_resume_locks g o found es s k session (there session) step new h
