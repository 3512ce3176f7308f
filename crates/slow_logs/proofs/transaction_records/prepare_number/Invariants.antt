use Rattle.std.proofs.Common.{◌≡◌, ◌+◌, drop}
use Rattle.std.specs.Prelude.{◌==◌, ◌&&◌, filter}
use Rattle.std.specs.List.{enumerate_from}
use Rattle.shore_model.specs.Logs.{is_prepare, prepare_number, first_number}
use Rattle.slow_logs.proofs.transaction_records.prepare_number.Given as goal

-- the first among the records that are left is the first of all
abbrev pub invariant-loop-index : goal.invariant-loop-index
invariant-loop-index l =
    first_number (filter (λ r. (r.1.txn == l.txn) && is_prepare r.1.payload) (enumerate_from (l.index + 1) (drop l.index l.records)))
    ≡ prepare_number l.txn l.records
