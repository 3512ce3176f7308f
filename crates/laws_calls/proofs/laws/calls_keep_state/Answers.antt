use Rattle.laws_calls.proofs.SessionStates.{session_call_stays}
use Rattle.laws_calls.proofs.laws.calls_keep_state.Goals as goal

pub returns : goal.returns
returns d g o found es old new session c step k h = session_call_stays o found es old k g session c step new h
