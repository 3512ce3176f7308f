use Rattle.laws_calls.proofs.SessionRooms.{settled_call_roomy, settled_resume_roomy}
use Rattle.laws_calls.proofs.settling.settled_calls_keep_room.Goals as goal

pub returns-clause-call : goal.returns-clause-call
returns-clause-call d g o found es old new session c step k roomy h = settled_call_roomy g o found es old k roomy session c step new h

pub returns-clause-resume : goal.returns-clause-resume
returns-clause-resume d g o found es old new session step k roomy h = settled_resume_roomy g o found es old k roomy session step new h
