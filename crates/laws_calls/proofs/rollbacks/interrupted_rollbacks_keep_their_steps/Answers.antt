use Rattle.laws_calls.proofs.WrongRollbacks.{resolve_stops, rollback_stops}
use Rattle.laws_calls.proofs.rollbacks.interrupted_rollbacks_keep_their_steps.Goals as goal

pub returns-clause-call : goal.returns-clause-call
returns-clause-call d = rollback_stops

pub returns-clause-resolve : goal.returns-clause-resolve
returns-clause-resolve d = resolve_stops
