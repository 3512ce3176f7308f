use Rattle.std.proofs.Common.{take}
use Rattle.std.specs.Prelude.{All}
use Rattle.shore_model.specs.Locks.{Agree}
use Rattle.slow_locks.proofs.holds.agrees_with_each.Given as goal

abbrev pub invariant-loop-other : goal.invariant-loop-other
invariant-loop-other l = All (Agree l.hold) (take l.other-index l.held)
