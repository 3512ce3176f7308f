use Rattle.std.proofs.Common.{◌≡◌, false, sym, ◌∙◌}
use Rattle.shore_txn.specs.TxnStates.{is_in_doubt}
use Rattle.shore_txn.specs.Txns.{state_of}
use Rattle.shore_core.specs.Cores.{txns_of}
use Rattle.shore_core.proofs.Callers.{at_seat}
use Rattle.shore_core.proofs.core_calls.Core.check_unprepared.Goals as goal

pub returns-clause-unprepared : goal.returns-clause-unprepared
returns-clause-unprepared g c =
    at_seat (txns_of c.args.self.now) c.args.seat.now c.txn.result.now c.txn.ensures.among c.txn.ensures.number (λ t. is_in_doubt (state_of t) ≡ false) (sym c.is_in_doubt.ensures ∙ c.if-is_in_doubt.false)
