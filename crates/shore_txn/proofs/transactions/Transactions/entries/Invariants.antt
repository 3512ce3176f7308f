use Rattle.std.proofs.Common.{◌≡◌, take}
use Rattle.shore_txn.proofs.LogTables.{listed_in_turn}
use Rattle.shore_txn.proofs.transactions.Transactions.entries.Given as goal

abbrev pub invariant-loop-active : goal.invariant-loop-active
invariant-loop-active l = l.table.items ≡ listed_in_turn (take l.active-index l.self.active.items)
