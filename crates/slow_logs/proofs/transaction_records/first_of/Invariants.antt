use Rattle.std.proofs.Common.{◌≡◌, ◌+◌, drop}
use Rattle.std.specs.Prelude.{◌==◌, filter}
use Rattle.std.specs.List.{enumerate_from}
use Rattle.shore_model.specs.Logs.{first_of, first_number}
use Rattle.slow_logs.proofs.transaction_records.first_of.Given as goal

-- the first among the records that are left is the first of all
abbrev pub invariant-loop-index : goal.invariant-loop-index
invariant-loop-index l =
    first_number (filter (λ r. r.1.txn == l.txn) (enumerate_from (l.index + 1) (drop l.index l.records))) ≡ first_of l.txn l.records
