use Rattle.shore_model.specs.Histories.{TakesTurn}
use Rattle.slow_histories.proofs.Places.{Below}
use Rattle.slow_histories.proofs.turns.takes_turns.Given as goal

abbrev pub invariant-loop-index : goal.invariant-loop-index
invariant-loop-index l = Below (TakesTurn (record { opening = l.opening; entries = l.entries })) l.made l.index
