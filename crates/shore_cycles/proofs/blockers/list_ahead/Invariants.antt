use Rattle.std.proofs.Common.{◌≡◌, ◌++◌}
use Rattle.shore_locks.specs.Tables.{waiters_at}
use Rattle.shore_cycles.specs.Blockers.{ahead, is_among}
use Rattle.shore_cycles.proofs.blockers.list_ahead.Given as goal

abbrev pub invariant-loop-other : goal.invariant-loop-other
invariant-loop-other l = record {
  listed : l.out.items ++ ahead l.waiter l.other-iterator ≡ l.initial.out.items ++ ahead l.waiter (waiters_at l.waiter.granule l.table.requests);
  met : is_among (ahead l.waiter l.other-iterator) l.sought ≡ is_among (ahead l.waiter (waiters_at l.waiter.granule l.table.requests)) l.sought;
}
