use Rattle.std.proofs.Common.{◌≡◌, drop}
use Rattle.laws_checkpoints.specs.Checkpoints as laws
use Rattle.shore_check.proofs.cut.least_recovery.Given as goal

abbrev pub invariant-loop-entry : goal.invariant-loop-entry
invariant-loop-entry l = laws.least_recovery l.least (drop l.entry-index l.dirty) ≡ laws.least_recovery l.fn.number l.dirty
