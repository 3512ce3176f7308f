use Rattle.std.proofs.Common.{take}
use Rattle.std.specs.Fmt.{HasWritten, IsPlainFormatter}
use Rattle.shore_types.specs.Faults.{cycle_text}
use Rattle.shore_types.proofs.faults.write_cycle.Given as goal

abbrev pub invariant-loop-txn : goal.invariant-loop-txn
invariant-loop-txn g l =
    IsPlainFormatter l.initial.f → HasWritten g.W.Write.write_str_gives l.initial.f (cycle_text (take l.txn-index l.txn-items)) l.f
