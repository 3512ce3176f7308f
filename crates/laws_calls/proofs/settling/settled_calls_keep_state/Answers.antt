use Rattle.laws_calls.proofs.SettledStates.{settled_call_stays, settled_resume_stays}
use Rattle.laws_calls.proofs.settling.settled_calls_keep_state.Goals as goal

pub returns-clause-call : goal.returns-clause-call
returns-clause-call d g o found es old new session c step k h = settled_call_stays o found es old k g session c step new h

pub returns-clause-resume : goal.returns-clause-resume
returns-clause-resume d g o found es old new session step k h = settled_resume_stays o found es old k g session step new h
