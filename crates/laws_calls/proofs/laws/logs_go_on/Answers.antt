use Rattle.laws_calls.proofs.LongerLogs.{session_event_goes_on}
use Rattle.laws_calls.proofs.laws.logs_go_on.Goals as goal

pub returns : goal.returns
returns d g s new e h = session_event_goes_on g s new e h
