use Rattle.std.proofs.Common.{◌≡◌, ◌++◌}
use Rattle.shore_locks.specs.Tables.{holders_at}
use Rattle.shore_cycles.specs.Blockers.{is_among, refusing}
use Rattle.shore_cycles.proofs.blockers.list_holders.Given as goal

abbrev pub invariant-loop-other : goal.invariant-loop-other
invariant-loop-other l = record {
  listed : l.out.items ++ refusing l.waiter l.other-iterator ≡ l.initial.out.items ++ refusing l.waiter (holders_at l.waiter.granule l.table.requests);
  met : is_among (refusing l.waiter l.other-iterator) l.sought ≡ is_among (refusing l.waiter (holders_at l.waiter.granule l.table.requests)) l.sought;
}
