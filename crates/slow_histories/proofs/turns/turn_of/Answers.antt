use Rattle.slow_histories.proofs.turns.turn_of.Goals as goal

pub returns-in-Prepare : goal.returns-in-Prepare
returns-in-Prepare c = rw c.in-Prepare.is c.unless_prepared.ensures
