use Rattle.shore_txn.proofs.DoubtSteps.{doubts_left}
use Rattle.std.proofs.Common.{◌≡◌, List, sym, ap, subst, ◌∙◌, arith}
use Rattle.shore_txn.specs.ActiveTxns.{OneLeaves}
use Rattle.shore_txn.specs.Transactions.{txns_in}
use Rattle.shore_txn.specs.Txns.{reserved_for}
use Rattle.shore_txn.specs.declared.txn.Txn.{Txn}
use Rattle.shore_txn.specs.declared.undo.UndoEntry.{UndoEntry}
use Rattle.shore_txn.proofs.ActiveSteps.{claims_left, one_at_number, undos_without}
use Rattle.shore_txn.proofs.transactions.Transactions.note_commit.Goals as goal

pub returns-clause-left : goal.returns-clause-left
returns-clause-left c =
    subst (λ (es : List UndoEntry). OneLeaves c.args.seat.now.txn es (txns_in c.args.self.now) (txns_in c.take_out-decided.new.self)) (sym c.into_undo.ensures) c.take_out-decided.ensures.left

pub returns-clause-undos : goal.returns-clause-undos
returns-clause-undos c a m its = let old = c.args.self.now in undos_without (returns-clause-left c) a old.numbers m its

pub returns-clause-claims : goal.returns-clause-claims
returns-clause-claims c = claims_left (returns-clause-left c)

pub returns-clause-number : goal.returns-clause-number
returns-clause-number c = c.id.ensures.number ∙ ap (λ (t : Txn). t.txn) c.txn.ensures ∙ c.take_out-decided.ensures.number

pub returns-clause-reserved : goal.returns-clause-reserved
returns-clause-reserved c t m its =
    let old = c.args.self.now in
    let same : reserved_for c.take_out-decided.result.txn ≡ reserved_for t =
    ap reserved_for (one_at_number (txns_in old) old.numbers c.take_out-decided.result.txn t c.take_out-decided.ensures.among m (c.take_out-decided.ensures.number ∙ sym its)) in
    omega (arith, same, c.take_out-decided.ensures.reserved, c.append.ensures.others.0)

pub returns-clause-doubts : goal.returns-clause-doubts
returns-clause-doubts c = doubts_left (returns-clause-left c) c.args.self.now.numbers
