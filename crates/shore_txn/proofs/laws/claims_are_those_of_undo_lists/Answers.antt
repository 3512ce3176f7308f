use Rattle.shore_txn.specs.Transactions.{txns_in}
use Rattle.shore_txn.proofs.ActiveKept.{claims_told}
use Rattle.shore_txn.proofs.laws.claims_are_those_of_undo_lists.Goals as goal

pub returns : goal.returns
returns c = claims_told (txns_in c.args.table.now)
