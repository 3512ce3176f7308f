use Rattle.laws_calls.proofs.SettledCycles.{opened_free, settled_call_free, settled_resume_free}
use Rattle.laws_calls.proofs.settling.settled_calls_leave_no_cycle.Goals as goal

pub returns-clause-call : goal.returns-clause-call
returns-clause-call d g o found es old new session c step k none h = settled_call_free g o found es old k none session c step new h

pub returns-clause-resume : goal.returns-clause-resume
returns-clause-resume d g o found es old new session step k none h = settled_resume_free g o found es old k none session step new h

pub returns-clause-events : goal.returns-clause-events
returns-clause-events d g o found first last events opened h = opened_free g o found first events last opened h
