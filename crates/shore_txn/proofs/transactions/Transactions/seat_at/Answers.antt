use Rattle.std.proofs.Common.{◌≡◌, ap, sym, ◌∙◌}
use Rattle.shore_txn.specs.Txns.{number_of}
use Rattle.shore_txn.specs.declared.active.ActiveTxn.{ActiveTxn}
use Rattle.shore_txn.proofs.ActiveLemmas.{one_at, read_at}
use Rattle.shore_txn.proofs.Seats.{seat_found}
use Rattle.shore_txn.proofs.transactions.Transactions.seat_at.Goals as goal

pub returns-clause-seated : goal.returns-clause-seated
returns-clause-seated c =
    let one = one_at c.args.self.now.active.items c.args.index c.requires in
    let it : c.index.result.now ≡ one.0 = c.index.ensures ∙ read_at one.1 c.index.result.now in
    seat_found c.args.self.now c.id.result c.args.index one.0 one.1 (sym (c.id.ensures.number ∙ ap number_of c.txn.ensures ∙ ap (λ (a : ActiveTxn). number_of a.txn) it))

pub returns-clause-number : goal.returns-clause-number
returns-clause-number c d =
    let one = one_at c.args.self.now.active.items c.args.index c.requires in
    let it : c.index.result.now ≡ one.0 = c.index.ensures ∙ read_at one.1 c.index.result.now in
    ap (λ (a : ActiveTxn). number_of a.txn) (read_at one.1 d) ∙ sym (c.id.ensures.number ∙ ap number_of c.txn.ensures ∙ ap (λ (a : ActiveTxn). number_of a.txn) it)
