use Rattle.std.proofs.Common.{◌≡◌, drop}
use Rattle.laws_checkpoints.specs.Checkpoints as laws
use Rattle.shore_check.proofs.cut.least_first.Given as goal

abbrev pub invariant-loop-entry : goal.invariant-loop-entry
invariant-loop-entry l = laws.least_first l.least (drop l.entry-index l.txns) ≡ laws.least_first l.fn.number l.txns
