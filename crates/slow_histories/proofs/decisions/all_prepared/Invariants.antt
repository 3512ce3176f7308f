use Rattle.std.proofs.Common.{◌≡◌, ◌++◌, drop, map}
use Rattle.std.specs.List.{filter_map}
use Rattle.shore_model.specs.Histories.{all_prepared, prepared_by}
use Rattle.slow_histories.proofs.decisions.all_prepared.Given as goal

abbrev pub invariant-loop-doubt : goal.invariant-loop-doubt
invariant-loop-doubt l =
    l.found ++ map (λ d. (d.txn, d.global)) (drop l.doubt-index l.doubt-items) ≡ map (λ d. (d.txn, d.global)) l.opening.in_doubt

abbrev pub invariant-loop-decision : goal.invariant-loop-decision
invariant-loop-decision l = l.found ++ filter_map prepared_by (drop l.decision-index l.decisions) ≡ all_prepared l.opening.in_doubt l.decisions
