use Rattle.laws_calls.proofs.LockWaits.{opened_may_ask, waits_may_ask}
use Rattle.laws_calls.proofs.progress.calls_that_wait_may_ask.Goals as goal

pub returns-clause-open : goal.returns-clause-open
returns-clause-open d = opened_may_ask

pub returns-clause-events : goal.returns-clause-events
returns-clause-events d = waits_may_ask
