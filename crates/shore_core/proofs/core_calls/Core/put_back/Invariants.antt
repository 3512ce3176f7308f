use Rattle.shore_core.proofs.Unwinding.{IsRolling}
use Rattle.shore_core.proofs.core_calls.Core.put_back.Given as goal

abbrev pub invariant-loop : goal.invariant-loop
invariant-loop g l = IsRolling l.initial.self l.self l.seat l.rollback l.least l.counter
