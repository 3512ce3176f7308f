use Rattle.std.proofs.Common.{take}
use Rattle.std.specs.Prelude.{All, Contains}
use Rattle.slow_histories.proofs.decisions.holds_each.Given as goal

abbrev pub invariant-loop-decision : goal.invariant-loop-decision
invariant-loop-decision l = All (Contains l.kept) (take l.decision-index l.answered)
