use Rattle.std.proofs.Common.{◌≡◌, ◌<◌, ℕ, IfNone, inl, inr, sym, subst, arith}
use Rattle.laws_lives.specs.Views.{IsAmong}
use Rattle.shore_txn.specs.LogEntries.{BeginsAt}
use Rattle.shore_txn.specs.Transactions.{txns_in}
use Rattle.shore_txn.specs.Txns.{first_of}
use Rattle.shore_txn.specs.declared.txn.Txn.{Txn}
use Rattle.shore_txn.proofs.ActiveLemmas.{each_of}
use Rattle.shore_txn.proofs.Lending.{seat_holds}
use Rattle.shore_txn.proofs.transactions.Transactions.oldest.Goals as goal

pub returns-in_err-index-clause-none : goal.returns-in_err-index-clause-none
returns-in_err-index-clause-none c =
    let table = c.args.self.now in
    let first = c.least_first.result in
    let least = c.least_first.ensures in
    let none = each_of (λ t. BeginsAt first t → ⊥) table.active.items c.in_err-index.ensures.none in
    let all : (t : Txn) → IsAmong t (txns_in table) → first_of t ≡ 0 = λ t m.
    let stands : 0 < first_of t → ⊥ = λ some. elim least.one [
      | inl zero ↦ let above = (least.below t m some).0 in omega (arith, zero, above)
      | inr its ↦ none its.0 its.1 its.2
    ] in omega (arith, stands) in
    subst (λ o. IfNone o ((t : Txn) → IsAmong t (txns_in table) → first_of t ≡ 0)) (sym c.from_residual.ensures) all

pub returns-clause-some : goal.returns-clause-some
returns-clause-some c =
    let table = c.args.self.now in
    let seat = c.seat_at-seat.result in
    let its = seat_holds table seat c.seat_at-seat.ensures.seated c.in_ok-index.index c.seat_at-seat.ensures.index (BeginsAt c.least_first.result) c.in_ok-index.ensures.some.1
    c.txn.result.now c.txn.ensures.among c.txn.ensures.number in
    record {
      there = c.txn.ensures.among;
      logged = its.0;
      least = λ u m some. let far = (c.least_first.ensures.below u m some).1 in let is = its.1 in omega (arith, far, is);
    }
