use Rattle.shore_txn.proofs.DoubtSteps.{doubt_free, doubts_same}
use Rattle.std.proofs.Common.{◌≡◌, false, ap}
use Rattle.shore_txn.specs.ActiveTxns.{back_at}
use Rattle.shore_txn.specs.TxnStates.{is_in_doubt}
use Rattle.shore_txn.specs.Txns.{IsBackAt, state_of}
use Rattle.shore_txn.proofs.ActiveSteps.{KeepsChanges, back_keeps, claims_still, kept_still, session_back, undos_by}
use Rattle.shore_txn.proofs.Lending.{kept_in, lent_becomes, lent_holds, at_before}
use Rattle.shore_txn.proofs.Seats.{seat_inside}
use Rattle.shore_txn.proofs.transactions.Transactions.go_back.Goals as goal

pub index_mut-requires : goal.index_mut-requires
index_mut-requires c = seat_inside c.args.self.now c.args.seat.now c.requires.seated

pub go_back-requires : goal.go_back-requires
go_back-requires c = record { free = lent_holds c.args.self.now c.args.seat.now c.requires.seated c.index_mut.result.now c.index_mut.ensures.value (λ t. is_in_doubt (state_of t) ≡ false) c.requires.free }

pub returns-clause-back : goal.returns-clause-back
returns-clause-back c =
    lent_becomes c.args.self.now c.args.seat.now c.requires.seated c.index_mut.result.now c.index_mut.ensures.value
    c.go_back.new.self (IsBackAt c.args.index) c.go_back.ensures

pub invariant_of-self : goal.invariant_of-self
invariant_of-self c =
    let old = c.args.self.now in
    let kept = lent_becomes c.args.self.now c.args.seat.now c.requires.seated c.index_mut.result.now c.index_mut.ensures.value c.go_back.new.self KeepsChanges
    (back_keeps c.args.index c.index_mut.result.now.txn c.go_back.new.self.txn
    (lent_holds c.args.self.now c.args.seat.now c.requires.seated c.index_mut.result.now c.index_mut.ensures.value (λ t. is_in_doubt (state_of t) ≡ false) c.requires.free) c.go_back.ensures) in
    let now = kept_still kept old.room.reserved old.next (kept_in old) in
    record { some = old.some; sum = now.sum; numbers = now.numbers; sessions = now.sessions; below = now.below }

pub returns-clause-undos : goal.returns-clause-undos
returns-clause-undos c =
    let back = returns-clause-back c in
    undos_by back (back_at c.args.index) (session_back back.before back.after c.args.index back.becomes) c.args.self.now.numbers

pub returns-clause-claims : goal.returns-clause-claims
returns-clause-claims c =
    claims_still
    (lent_becomes c.args.self.now c.args.seat.now c.requires.seated c.index_mut.result.now c.index_mut.ensures.value c.go_back.new.self KeepsChanges
    (back_keeps c.args.index c.index_mut.result.now.txn c.go_back.new.self.txn
    (lent_holds c.args.self.now c.args.seat.now c.requires.seated c.index_mut.result.now c.index_mut.ensures.value (λ t. is_in_doubt (state_of t) ≡ false) c.requires.free) c.go_back.ensures))

pub returns-clause-doubts : goal.returns-clause-doubts
returns-clause-doubts c =
    let back = returns-clause-back c in
    doubts_same back (doubt_free back.before back.after (at_before c.args.self.now c.args.seat.now back (λ t. is_in_doubt (state_of t) ≡ false) c.requires.free) (ap is_in_doubt back.becomes.state))
