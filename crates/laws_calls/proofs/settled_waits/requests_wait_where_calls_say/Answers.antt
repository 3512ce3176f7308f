use Rattle.laws_calls.proofs.SettledThere.{events_there, opened_there, settled_call_there, settled_resume_there}
use Rattle.laws_calls.proofs.settled_waits.requests_wait_where_calls_say.Goals as goal

pub returns-clause-call : goal.returns-clause-call
returns-clause-call d g o found es s new session c step k was h = settled_call_there g o found es s k session c step new was h

pub returns-clause-resume : goal.returns-clause-resume
returns-clause-resume d g o found es s new session step k was h = settled_resume_there g o found es s k session step new was h

pub returns-clause-events : goal.returns-clause-events
returns-clause-events d g o found es s last events k was h = events_there g o found es s events last k was h

pub returns-clause-open : goal.returns-clause-open
returns-clause-open d = opened_there
