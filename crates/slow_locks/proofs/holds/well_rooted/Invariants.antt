use Rattle.std.proofs.Common.{take}
use Rattle.std.specs.Prelude.{All}
use Rattle.shore_model.specs.Locks.{IsRooted}
use Rattle.slow_locks.proofs.holds.well_rooted.Given as goal

abbrev pub invariant-loop-hold : goal.invariant-loop-hold
invariant-loop-hold l = All (IsRooted l.held) (take l.hold-index l.held)
