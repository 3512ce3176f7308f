use Rattle.std.proofs.Common.{◌≡◌, ◌++◌, drop}
use Rattle.std.specs.List.{filter_map}
use Rattle.shore_model.specs.Histories.{decision_of}
use Rattle.slow_histories.proofs.decisions.decisions.Given as goal

abbrev pub invariant-loop-entry : goal.invariant-loop-entry
invariant-loop-entry l = l.found ++ filter_map decision_of (drop l.entry-index l.entries) ≡ filter_map decision_of l.entries
