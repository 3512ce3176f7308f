use Rattle.std.proofs.Common.{◌≡◌}
use Rattle.shore_gate.specs.Numbers.{numbers_at}
use Rattle.shore_gate.proofs.numbers.u32s_at.Given as goal

abbrev pub invariant-loop-i : goal.invariant-loop-i
invariant-loop-i l = l.numbers.items ≡ numbers_at l.bytes l.offset l.i
