use Rattle.std.proofs.Common.{◌≡◌, ◌≤◌}
use Rattle.shore_txn.proofs.ActivePlaces.{older_claims}
use Rattle.shore_txn.proofs.transactions.Transactions.newest_of_older.Given as goal

abbrev pub invariant-loop-index : goal.invariant-loop-index
invariant-loop-index l = (l.index ≤ l.count) × (older_claims l.page l.self.active.items l.index ≡ older_claims l.page l.self.active.items l.count)

abbrev pub decreases-loop-index : goal.decreases-loop-index
decreases-loop-index l = l.index
