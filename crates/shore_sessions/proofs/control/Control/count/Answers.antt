use Rattle.std.proofs.Common.{arith}
use Rattle.shore_txn.specs.Transactions.{undos_in}
use Rattle.shore_txn.proofs.OneOfMany.{count_owed}
use Rattle.shore_sessions.proofs.Counting.{count_is}
use Rattle.shore_sessions.proofs.control.Control.count.Goals as goal

-- each transaction owes its ending, for which the log has room
pub overflow_add-result : goal.overflow_add-result
overflow_add-result c =
    let txns = c.args.self.now.txns in
    let owed = count_owed (undos_in txns) in
    omega (arith, owed, txns.sum, txns.room.within, txns.room.short, c.count.ensures, c.resolves_waiting.ensures.few, c.resolves_waiting.ensures.small)

pub returns-clause-count : goal.returns-clause-count
returns-clause-count c s was works =
    let is = count_is c.args.self.now s was works in
    omega (arith, is, c.count.ensures, c.resolves_waiting.ensures.count)
