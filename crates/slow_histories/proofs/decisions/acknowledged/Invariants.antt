use Rattle.std.proofs.Common.{◌≡◌, ◌++◌, drop, take}
use Rattle.shore_model.specs.Histories as histories
use Rattle.shore_model.specs.Histories.{acknowledged_after}
use Rattle.slow_histories.proofs.decisions.acknowledged.Given as goal

abbrev pub invariant-loop-index : goal.invariant-loop-index
invariant-loop-index l = l.found ++ acknowledged_after (take l.index l.entries) (drop l.index l.entries) ≡ histories.acknowledged l.entries
