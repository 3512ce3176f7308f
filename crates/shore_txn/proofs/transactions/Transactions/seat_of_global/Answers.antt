use Rattle.std.proofs.Common.{◌≡◌, ◌≢◌, IfNone, Some, sym, subst}
use Rattle.laws_lives.specs.Views.{IsAmong}
use Rattle.shore_txn.specs.Transactions.{txns_in}
use Rattle.shore_txn.specs.Txns.{global_of}
use Rattle.shore_txn.specs.declared.txn.Txn.{Txn}
use Rattle.shore_txn.proofs.ActiveLemmas.{each_of}
use Rattle.shore_txn.proofs.Lending.{seat_holds}
use Rattle.shore_txn.proofs.transactions.Transactions.seat_of_global.Goals as goal

pub returns-in_err-index-clause-none : goal.returns-in_err-index-clause-none
returns-in_err-index-clause-none c =
    let table = c.args.self.now in
    subst (λ o. IfNone o ((t : Txn) → IsAmong t (txns_in table) → global_of t ≢ Some c.args.global.now)) (sym c.from_residual.ensures)
    (each_of (λ t. global_of t ≢ Some c.args.global.now) table.active.items c.in_err-index.ensures.none)

pub returns-clause-named : goal.returns-clause-named
returns-clause-named c =
    seat_holds c.args.self.now c.seat_at.result c.seat_at.ensures.seated c.in_ok-index.index c.seat_at.ensures.index (λ t. global_of t ≡ Some c.args.global.now) c.in_ok-index.ensures.some.1
