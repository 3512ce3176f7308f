use Rattle.std.proofs.Common.{take}
use Rattle.std.specs.Prelude.{All}
use Rattle.shore_model.specs.Locks.{KeepApart}
use Rattle.slow_locks.proofs.holds.none_interferes.Given as goal

abbrev pub invariant-loop-hold : goal.invariant-loop-hold
invariant-loop-hold l = All (λ h. All (KeepApart h) l.held) (take l.hold-index l.held)
