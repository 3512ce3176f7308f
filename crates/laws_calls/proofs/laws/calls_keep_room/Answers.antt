use Rattle.laws_calls.proofs.SessionRooms.{session_call_roomy, session_resume_roomy}
use Rattle.laws_calls.proofs.Rooms.{open_roomy}
use Rattle.laws_calls.proofs.laws.calls_keep_room.Goals as goal

pub returns-clause-calls : goal.returns-clause-calls
returns-clause-calls d g o found es old new session c step k roomy h = session_call_roomy g o found es old k roomy session c step new h

pub returns-clause-resumes : goal.returns-clause-resumes
returns-clause-resumes d g o found es old new session step k roomy h = session_resume_roomy g o found es old k roomy session step new h

pub returns-clause-open : goal.returns-clause-open
returns-clause-open d v o found s h slots pages behind within room numbers short = open_roomy v o found s h slots pages behind within room numbers short
