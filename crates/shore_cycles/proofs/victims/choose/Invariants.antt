use Rattle.std.proofs.Common.{◌≡◌}
use Rattle.shore_cycles.specs.Cycles.{AreVictims}
use Rattle.shore_cycles.specs.Searching.{IsUnderWay}
use Rattle.shore_cycles.proofs.VictimLemmas.{unharmed}
use Rattle.shore_cycles.proofs.victims.choose.Given as goal

abbrev pub invariant-loop-search : goal.invariant-loop-search
invariant-loop-search l = record {
  txn : l.search.txn ≡ l.txn;
  victims : AreVictims l.table.requests l.txn l.search.victims.items;
  under_way : IsUnderWay l.table.requests l.search.victims.items l.txn l.search.trail l.search.index;
}

abbrev pub decreases-loop-search : goal.decreases-loop-search
decreases-loop-search l = unharmed l.search.victims.items l.table.requests
