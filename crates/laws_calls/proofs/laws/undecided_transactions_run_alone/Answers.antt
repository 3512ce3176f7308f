use Rattle.laws_calls.proofs.SessionTells.{session_runs_alone}
use Rattle.laws_calls.proofs.laws.undecided_transactions_run_alone.Goals as goal

pub returns : goal.returns
returns d o found es s a k mem = session_runs_alone o found es s k a mem
