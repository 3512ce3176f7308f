use Rattle.std.proofs.Common.{◌≡◌, ◌++◌, drop}
use Rattle.std.specs.Prelude.{filter}
use Rattle.shore_model.specs.Histories.{in_doubt, is_undecided}
use Rattle.slow_histories.proofs.decisions.in_doubt.Given as goal

abbrev pub invariant-loop-pair : goal.invariant-loop-pair
invariant-loop-pair l = l.found ++ filter (λ p. is_undecided l.decisions p.0) (drop l.pair-index l.pair-items) ≡ in_doubt l.opening.in_doubt l.decisions
