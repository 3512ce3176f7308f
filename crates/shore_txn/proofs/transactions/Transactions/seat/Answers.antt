use Rattle.std.proofs.Common.{IfNone, sym, subst}
use Rattle.shore_txn.specs.Transactions.{HasNoTxnOf}
use Rattle.shore_txn.specs.Txns.{IsOf}
use Rattle.shore_txn.proofs.ActiveLemmas.{each_of}
use Rattle.shore_txn.proofs.Lending.{seat_holds}
use Rattle.shore_txn.proofs.transactions.Transactions.seat.Goals as goal

pub returns-in_err-index-clause-none : goal.returns-in_err-index-clause-none
returns-in_err-index-clause-none c =
    let table = c.args.self.now in
    subst (λ o. IfNone o (HasNoTxnOf c.args.session table)) (sym c.from_residual.ensures) (each_of (λ t. IsOf c.args.session t → ⊥) table.active.items c.in_err-index.ensures.none)

pub returns-clause-own : goal.returns-clause-own
returns-clause-own c = seat_holds c.args.self.now c.seat_at.result c.seat_at.ensures.seated c.in_ok-index.index c.seat_at.ensures.index (IsOf c.args.session) c.in_ok-index.ensures.some.1
