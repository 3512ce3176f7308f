use Rattle.std.specs.Prelude.{All}
use Rattle.std.proofs.Common.{take}
use Rattle.shore_logrec.specs.Text.{TxnFits}
use Rattle.shore_check.proofs.tables.txns_fit.Given as goal

abbrev pub invariant-loop-entry : goal.invariant-loop-entry
invariant-loop-entry l = All TxnFits (take l.entry-index l.txns)
