use Rattle.std.proofs.Common.{◌≡◌, take}
use Rattle.shore_model.specs.Logs.{last_of}
use Rattle.slow_logs.proofs.transaction_records.last_of.Given as goal

abbrev pub invariant-loop-index : goal.invariant-loop-index
invariant-loop-index l = l.last ≡ last_of l.txn (take l.index l.records)
