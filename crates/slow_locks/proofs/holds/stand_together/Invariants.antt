use Rattle.std.proofs.Common.{take}
use Rattle.std.specs.Prelude.{All}
use Rattle.shore_model.specs.Locks.{Agree}
use Rattle.slow_locks.proofs.holds.stand_together.Given as goal

abbrev pub invariant-loop-hold : goal.invariant-loop-hold
invariant-loop-hold l = All (λ h. All (Agree h) l.held) (take l.hold-index l.held)
