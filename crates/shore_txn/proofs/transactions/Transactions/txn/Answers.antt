use Rattle.std.proofs.Common.{sym, ap, subst, ◌∙◌}
use Rattle.laws_lives.specs.Views.{IsAmong}
use Rattle.shore_txn.specs.Transactions.{txns_in, undos_in}
use Rattle.shore_txn.specs.Txns.{as_session_txn}
use Rattle.shore_txn.specs.declared.txn.Txn.{Txn}
use Rattle.shore_txn.proofs.Lending.{lent_among, lent_number, lent_there}
use Rattle.shore_txn.proofs.Seats.{seat_inside}
use Rattle.shore_txn.proofs.transactions.Transactions.txn.Goals as goal

pub index-requires : goal.index-requires
index-requires c = seat_inside c.args.self.now c.args.seat.now c.requires

pub returns-clause-among : goal.returns-clause-among
returns-clause-among c =
    subst (λ t. IsAmong t (txns_in c.args.self.now)) (sym c.txn.ensures) (lent_among c.args.self.now c.args.seat.now c.requires c.index.result.now c.index.ensures)

pub returns-clause-there : goal.returns-clause-there
returns-clause-there c =
    subst (λ t. IsAmong (as_session_txn t) (undos_in c.args.self.now)) (sym c.txn.ensures) (lent_there c.args.self.now c.args.seat.now c.requires c.index.result.now c.index.ensures)

pub returns-clause-number : goal.returns-clause-number
returns-clause-number c = ap (λ (t : Txn). t.txn) c.txn.ensures ∙ lent_number c.args.self.now c.args.seat.now c.requires c.index.result.now c.index.ensures
