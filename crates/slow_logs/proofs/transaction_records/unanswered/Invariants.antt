use Rattle.std.proofs.Common.{◌≡◌, reverse, take}
use Rattle.shore_model.specs.Logs.{unanswered}
use Rattle.slow_logs.proofs.transaction_records.unanswered.Given as goal

abbrev pub invariant-loop-index : goal.invariant-loop-index
invariant-loop-index l = reverse l.changes.items ≡ unanswered l.txn (take l.index l.records)
