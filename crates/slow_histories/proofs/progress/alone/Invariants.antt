use Rattle.std.proofs.Common.{drop}
use Rattle.shore_model.specs.Histories.{calls_of}
use Rattle.slow_histories.proofs.Runs.{ComesTo}
use Rattle.slow_histories.proofs.progress.alone.Given as goal

abbrev pub invariant-loop-entry : goal.invariant-loop-entry
invariant-loop-entry l = ComesTo l.slots l.records (calls_of l.txn l.entries) (calls_of l.txn (drop l.entry-index l.entries)) l.progress
