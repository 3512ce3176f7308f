use Rattle.std.proofs.Common.{◌≡◌, ◌+◌, ◌-◌, length}
use Rattle.shore_cycles.specs.Searching.{IsUnderWay}
use Rattle.shore_cycles.proofs.ReachedLemmas.{unreached}
use Rattle.shore_cycles.proofs.search.Search.next_cycle.Given as goal

abbrev pub invariant-loop-self : goal.invariant-loop-self
invariant-loop-self l = record {
  txn : l.self.txn ≡ l.initial.self.txn;
  victims : l.self.victims ≡ l.initial.self.victims;
  under_way : IsUnderWay l.table.requests l.initial.self.victims.items l.initial.self.txn l.self.trail l.self.index;
}

abbrev pub decreases-loop-self : goal.decreases-loop-self
decreases-loop-self l = unreached l.table.requests l.self.trail.steps + length l.self.trail.steps - l.self.index
