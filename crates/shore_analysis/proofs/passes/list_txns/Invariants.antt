use Rattle.std.proofs.Common.{ℕ}
use Rattle.shore_model.specs.declared.log_records.LogTxn.{LogTxn}
use Rattle.shore_analysis.proofs.Listed.{IsListing}
use Rattle.shore_analysis.proofs.passes.list_txns.Given as goal

abbrev pub invariant-loop-entry : goal.invariant-loop-entry
invariant-loop-entry l = IsListing (λ (e : ℕ × LogTxn). e.1) l.initial.entry-iterator l.entry-iterator l.txns
