use Rattle.laws_calls.proofs.SessionRun.{two_come_through}
use Rattle.laws_calls.proofs.progress.two_sessions_come_through.Goals as goal

pub returns : goal.returns
returns d = two_come_through
