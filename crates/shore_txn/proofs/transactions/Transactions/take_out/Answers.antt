use Rattle.std.proofs.Common.{◌≡◌, ◌+◌, refl, sym, ap, subst, ◌∙◌, arith}
use Rattle.laws_lives.specs.Views.{IsAmong}
use Rattle.shore_txn.specs.Transactions.{txns_in}
use Rattle.shore_txn.specs.Txns.{entries_of, number_of, reserved_for}
use Rattle.shore_txn.specs.declared.active.ActiveTxn.{ActiveTxn}
use Rattle.shore_txn.proofs.ActiveLemmas.{read_at, txn_there}
use Rattle.shore_txn.proofs.ActiveSteps.{kept_without, leaves_at, left_among, one_at_number}
use Rattle.shore_txn.proofs.Lending.{kept_in}
use Rattle.shore_txn.proofs.Reserves.{reserved_among}
use Rattle.shore_txn.proofs.Seats.{seat_inside, seat_one}
use Rattle.shore_txn.proofs.transactions.Transactions.take_out.Goals as goal

pub remove-one-requires : goal.remove-one-requires
remove-one-requires c = seat_inside c.args.self.now c.args.seat.now c.requires.seated

pub release-requires : goal.release-requires
release-requires c =
    let old = c.args.self.now in
    let one = seat_one old c.args.seat.now c.requires.seated in
    let it : c.remove-one.result ≡ one.0 = c.remove-one.ensures.value ∙ read_at one.1 c.remove-one.result in
    let its : reserved_for c.remove-one.result.txn ≡ reserved_for one.0.txn = ap (λ (a : ActiveTxn). reserved_for a.txn) it in
    let reserved : c.reserved.result ≡ reserved_for c.remove-one.result.txn = c.reserved.ensures.sum ∙ ap reserved_for c.txn.ensures in
    let least = reserved_among one.0.txn (txns_in old) (txn_there one.1) in
    omega (arith, reserved, its, least, old.sum)

pub invariant_of-self : goal.invariant_of-self
invariant_of-self c =
    let old = c.args.self.now in
    let one = seat_one old c.args.seat.now c.requires.seated in
    let it : c.remove-one.result ≡ one.0 = c.remove-one.ensures.value ∙ read_at one.1 c.remove-one.result in
    let its : reserved_for c.remove-one.result.txn ≡ reserved_for one.0.txn = ap (λ (a : ActiveTxn). reserved_for a.txn) it in
    let reserved : c.reserved.result ≡ reserved_for c.remove-one.result.txn = c.reserved.ensures.sum ∙ ap reserved_for c.txn.ensures in
    let leaves = leaves_at one.1 c.remove-one.new.self.items (entries_of one.0.txn) (number_of one.0.txn) c.remove-one.ensures.items refl refl in
    let same : reserved_for leaves.one ≡ reserved_for one.0.txn = ap reserved_for (one_at_number (txns_in old) old.numbers leaves.one one.0.txn (left_among leaves) (txn_there one.1) leaves.txn) in
    let less : c.release.new.self.reserved + reserved_for leaves.one ≡ old.room.reserved = omega (arith, reserved, its, same, c.release.ensures.reserved) in
    let now = kept_without leaves old.room.reserved old.next c.release.new.self.reserved
    less (kept_in old) in
    record { some = old.some; sum = now.sum; numbers = now.numbers; sessions = now.sessions; below = now.below }

pub returns-clause-left : goal.returns-clause-left
returns-clause-left c =
    let old = c.args.self.now in
    let one = seat_one old c.args.seat.now c.requires.seated in
    let it : c.remove-one.result ≡ one.0 = c.remove-one.ensures.value ∙ read_at one.1 c.remove-one.result in
    leaves_at one.1 c.remove-one.new.self.items (entries_of c.remove-one.result.txn) c.args.seat.now.txn c.remove-one.ensures.items one.2
    (ap (λ (a : ActiveTxn). a.txn.undo.items) it)

pub returns-clause-number : goal.returns-clause-number
returns-clause-number c =
    let one = seat_one c.args.self.now c.args.seat.now c.requires.seated in
    ap (λ (a : ActiveTxn). number_of a.txn) (c.remove-one.ensures.value ∙ read_at one.1 c.remove-one.result) ∙ one.2

pub returns-clause-among : goal.returns-clause-among
returns-clause-among c =
    let one = seat_one c.args.self.now c.args.seat.now c.requires.seated in
    subst (λ (a : ActiveTxn). IsAmong a.txn (txns_in c.args.self.now)) (sym (c.remove-one.ensures.value ∙ read_at one.1 c.remove-one.result)) (txn_there one.1)

pub returns-clause-reserved : goal.returns-clause-reserved
returns-clause-reserved c =
    let reserved : c.reserved.result ≡ reserved_for c.remove-one.result.txn = c.reserved.ensures.sum ∙ ap reserved_for c.txn.ensures in
    omega (arith, reserved, c.release.ensures.reserved)
