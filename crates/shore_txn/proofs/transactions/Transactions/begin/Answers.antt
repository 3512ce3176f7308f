use Rattle.std.specs.List.{cons_option}
use Rattle.shore_txn.specs.TxnStates.{is_in_doubt}
use Rattle.shore_txn.proofs.DoubtSteps.{doubt_none}
use Rattle.std.proofs.Common.{◌+◌, List, sym, subst, ◌∙◌, arith, ap}
use Rattle.shore_types.specs.declared.layout.TheConstants.{ENDING_COST}
use Rattle.shore_txn.specs.ActiveTxns as active
use Rattle.shore_txn.specs.declared.active.ActiveTxn.{ActiveTxn}
use Rattle.shore_txn.specs.Transactions.{txns_in}
use Rattle.shore_txn.specs.Txns.{IsOf, prepared_of}
use Rattle.shore_txn.proofs.ActiveLemmas.{txns_more}
use Rattle.shore_txn.proofs.ActiveSteps.{AreKept, fresh_next, kept_more}
use Rattle.shore_txn.proofs.Lending.{kept_in}
use Rattle.shore_txn.proofs.Reserves.{reserved_begun}
use Rattle.shore_txn.proofs.transactions.Transactions.begin.Goals as goal

pub invariant_of-self-2 : goal.invariant_of-self-2
invariant_of-self-2 c =
    let old = c.args.self.now in
    let t = c.new.result.txn in
    let begun = c.new.ensures in
    let more = txns_more old.active.items c.reserve.new.self.items c.push_reserved.new.self.items c.new.result c.push_reserved.ensures.items c.in_ok-reserve.ensures.items in
    let now = kept_more (txns_in old) old.room.reserved old.next (old.next + 1) t (reserved_begun t begun.entries begun.state)
    (λ x m same. fresh_next (txns_in old) old.next old.below x m (same ∙ begun.txn)) (omega (arith, begun.txn)) (omega arith)
    (λ n its x m other. c.requires.none x m (subst (λ k. IsOf k x) (sym its.1 ∙ begun.session) other)) (kept_in old) in
    let is = subst (λ ts. AreKept ts (old.room.reserved + ENDING_COST) (old.next + 1)) (sym more) now in
    record { some = omega arith; sum = c.reserve-2.ensures.reserved ∙ is.sum; numbers = is.numbers; sessions = is.sessions; below = is.below }

pub returns-clause-begun : goal.returns-clause-begun
returns-clause-begun c =
    (c.new.result.txn, txns_more c.args.self.now.active.items c.reserve.new.self.items c.push_reserved.new.self.items c.new.result c.push_reserved.ensures.items c.in_ok-reserve.ensures.items, c.new.ensures)

pub invariant_of-self : goal.invariant_of-self
invariant_of-self c =
    let old = c.args.self.now in
    let is = subst (λ (items : List ActiveTxn). AreKept (active.txns_of items) old.room.reserved old.next) (sym c.in_err-reserve.ensures.items) (kept_in old) in
    record { some = old.some; sum = is.sum; numbers = is.numbers; sessions = is.sessions; below = is.below }

pub returns-in_err-reserve-clause-doubts : goal.returns-in_err-reserve-clause-doubts
returns-in_err-reserve-clause-doubts c = ap (λ items. prepared_of (active.txns_of items)) c.in_err-reserve.ensures.items

pub returns-clause-doubts : goal.returns-clause-doubts
returns-clause-doubts c =
    let more = txns_more c.args.self.now.active.items c.reserve.new.self.items c.push_reserved.new.self.items c.new.result c.push_reserved.ensures.items c.in_ok-reserve.ensures.items in
    ap prepared_of more ∙ ap (λ o. cons_option o (prepared_of (txns_in c.args.self.now))) (doubt_none c.new.result.txn c.new.result.txn (ap is_in_doubt c.new.ensures.state))
