use Rattle.std.proofs.Common.{map, take}
use Rattle.shore_txn.specs.LogEntries.{IsLeastFirst}
use Rattle.shore_txn.specs.declared.active.ActiveTxn.{ActiveTxn}
use Rattle.shore_txn.proofs.transactions.Transactions.least_first.Given as goal

abbrev pub invariant-loop-active : goal.invariant-loop-active
invariant-loop-active l = IsLeastFirst (map (λ (a : ActiveTxn). a.txn) (take l.active-index l.self.active.items)) l.least
