use Rattle.std.proofs.Common.{take}
use Rattle.std.specs.Prelude.{All}
use Rattle.shore_model.specs.Locks.{KeepApart}
use Rattle.slow_locks.proofs.holds.keeps_apart_from_each.Given as goal

abbrev pub invariant-loop-other : goal.invariant-loop-other
invariant-loop-other l = All (KeepApart l.hold) (take l.other-index l.held)
