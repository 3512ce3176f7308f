use Rattle.std.proofs.Common.{◌≡◌, false}
use Rattle.shore_locks.specs.Tables.{is_waiting}
use Rattle.bench_parts.proofs.locks.take_records.Given as goal

abbrev pub invariant-loop-slot : goal.invariant-loop-slot
invariant-loop-slot l = is_waiting 1 l.table.requests ≡ false

abbrev pub invariant-loop-page : goal.invariant-loop-page
invariant-loop-page l = is_waiting 1 l.table.requests ≡ false

abbrev pub invariant-loop-number : goal.invariant-loop-number
invariant-loop-number l = is_waiting 1 l.table.requests ≡ false

abbrev pub invariant-loop-index : goal.invariant-loop-index
invariant-loop-index l = is_waiting 1 l.table.requests ≡ false
