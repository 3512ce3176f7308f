use Rattle.laws_calls.proofs.SessionStates.{session_failure_stays, session_force_stays}
use Rattle.laws_calls.proofs.laws.forces_and_failures_keep_state.Goals as goal

pub returns-clause-durable : goal.returns-clause-durable
returns-clause-durable d o found es s n k more within = session_force_stays o found es s k n more within

pub returns-clause-failed : goal.returns-clause-failed
returns-clause-failed d o found es s k = session_failure_stays o found es s k
