use Rattle.std.proofs.Common.{◌≡◌, take}
use Rattle.shore_model.specs.Logs.{logged_writes}
use Rattle.slow_logs.proofs.recovered_records.logged_writes.Given as goal

abbrev pub invariant-loop-record : goal.invariant-loop-record
invariant-loop-record l = l.writes ≡ logged_writes (take l.record-index l.records) l.txn
