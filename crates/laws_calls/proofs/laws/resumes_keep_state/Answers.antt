use Rattle.laws_calls.proofs.SessionStates.{session_resume_stays}
use Rattle.laws_calls.proofs.laws.resumes_keep_state.Goals as goal

pub returns : goal.returns
returns d g o found es old new session step k h = session_resume_stays o found es old k g session step new h
