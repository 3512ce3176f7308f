use Rattle.std.specs.List.{cons_option}
use Rattle.shore_txn.specs.TxnStates.{is_in_doubt}
use Rattle.shore_txn.proofs.DoubtSteps.{doubt_none}
use Rattle.std.proofs.Common.{◌≡◌, ◌+◌, List, ap, false, length, sym, subst, true, ◌∙◌, arith}
use Rattle.shore_types.specs.declared.layout.TheConstants.{ENDING_COST}
use Rattle.shore_txn.specs.ActiveTxns as active
use Rattle.shore_txn.specs.Transactions.{txns_in}
use Rattle.shore_txn.specs.Txns.{number_of, prepared_of}
use Rattle.shore_txn.specs.declared.active.ActiveTxn.{ActiveTxn}
use Rattle.shore_txn.proofs.ActiveLemmas.{read_last, txns_more}
use Rattle.shore_txn.proofs.ActiveSteps.{AreKept, kept_more}
use Rattle.shore_txn.proofs.Lending.{kept_in}
use Rattle.shore_txn.proofs.Reserves.{reserved_begun}
use Rattle.shore_txn.proofs.transactions.Transactions.restore.Goals as goal

pub invariant_of-self : goal.invariant_of-self
invariant_of-self c =
    let old = c.args.self.now in
    let is = subst (λ (items : List ActiveTxn). AreKept (active.txns_of items) old.room.reserved old.next) (sym c.in_err-reserve.ensures.items) (kept_in old) in
    record { some = old.some; sum = is.sum; numbers = is.numbers; sessions = is.sessions; below = is.below }

pub invariant_of-self-2 : goal.invariant_of-self-2
invariant_of-self-2 c =
    let old = c.args.self.now in
    let t = c.found.result.txn in
    let found = c.found.ensures in
    let more = txns_more old.active.items c.reserve.new.self.items c.push_reserved.new.self.items c.found.result c.push_reserved.ensures.items c.in_ok-reserve.ensures.items in
    let now = kept_more (txns_in old) old.room.reserved old.next old.next t (reserved_begun t found.entries found.state)
    (λ x m same. c.requires.new x m (same ∙ found.txn)) (omega (arith, found.txn, c.requires.below)) (omega arith)
    (λ n its x m other. absurd (let clash : true ≡ false = sym its.0 ∙ found.seated in cc)) (kept_in old) in
    let is = subst (λ ts. AreKept ts (old.room.reserved + ENDING_COST) old.next) (sym more) now in
    record { some = old.some; sum = c.reserve-2.ensures.reserved ∙ is.sum; numbers = is.numbers; sessions = is.sessions; below = is.below }

pub returns-clause-seated : goal.returns-clause-seated
returns-clause-seated c =
    let end : c.len-index.result ≡ length c.reserve.new.self.items = omega (arith, c.len-index.ensures) in
    let last = read_last c.args.self.now.active.items c.reserve.new.self.items c.push_reserved.new.self.items c.found.result c.len-index.result c.push_reserved.ensures.items c.in_ok-reserve.ensures.items end in
    (c.seat_at.ensures.seated, sym (c.seat_at.ensures.number c.found.result) ∙ ap (λ (a : ActiveTxn). number_of a.txn) last ∙ c.found.ensures.txn)

pub returns-clause-found : goal.returns-clause-found
returns-clause-found c =
    (c.found.result.txn, txns_more c.args.self.now.active.items c.reserve.new.self.items c.push_reserved.new.self.items c.found.result c.push_reserved.ensures.items c.in_ok-reserve.ensures.items, c.found.ensures)

pub returns-in_err-reserve-clause-doubts : goal.returns-in_err-reserve-clause-doubts
returns-in_err-reserve-clause-doubts c = ap (λ items. prepared_of (active.txns_of items)) c.in_err-reserve.ensures.items

pub returns-clause-doubts : goal.returns-clause-doubts
returns-clause-doubts c =
    let more = txns_more c.args.self.now.active.items c.reserve.new.self.items c.push_reserved.new.self.items c.found.result c.push_reserved.ensures.items c.in_ok-reserve.ensures.items in
    ap prepared_of more ∙ ap (λ o. cons_option o (prepared_of (txns_in c.args.self.now))) (doubt_none c.found.result.txn c.found.result.txn (ap is_in_doubt c.found.ensures.state))
