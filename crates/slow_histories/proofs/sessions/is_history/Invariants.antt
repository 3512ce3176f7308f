use Rattle.shore_model.specs.Histories.{MayStand}
use Rattle.slow_histories.proofs.Places.{Below}
use Rattle.slow_histories.proofs.sessions.is_history.Given as goal

abbrev pub invariant-loop-index : goal.invariant-loop-index
invariant-loop-index l = Below (MayStand l.opening) l.entries l.index
