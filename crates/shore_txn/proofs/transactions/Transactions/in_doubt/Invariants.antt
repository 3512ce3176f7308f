use Rattle.std.proofs.Common.{◌≡◌, take}
use Rattle.shore_txn.proofs.DoubtsListed.{doubts_in_turn}
use Rattle.shore_txn.proofs.transactions.Transactions.in_doubt.Given as goal

abbrev pub invariant-loop-active : goal.invariant-loop-active
invariant-loop-active l = l.found.items ≡ doubts_in_turn (take l.active-index l.self.active.items)
