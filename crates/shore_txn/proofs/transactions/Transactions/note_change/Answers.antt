use Rattle.shore_txn.proofs.DoubtSteps.{doubt_kept, doubts_same}
use Rattle.std.proofs.Common.{◌≡◌, refl, ap, sym, subst, ◌∙◌, arith}
use Rattle.shore_txn.specs.ActiveTxns.{CanNote}
use Rattle.shore_txn.specs.Transactions.{txns_in}
use Rattle.shore_txn.specs.Txns.{IsAfterChange, number_of, reserved_for}
use Rattle.shore_txn.specs.declared.active.ActiveTxn.{ActiveTxn}
use Rattle.shore_txn.proofs.ActiveLemmas.{active_there, read_at, txn_there}
use Rattle.shore_txn.proofs.ActiveSteps.{becomes_at, claims_elsewhere, claims_noted, kept_noted, undos_noted}
use Rattle.shore_txn.proofs.Lending.{kept_in}
use Rattle.shore_txn.proofs.Reserves.{reserved_among}
use Rattle.shore_txn.proofs.Seats.{seat_inside, seat_one}
use Rattle.shore_txn.proofs.transactions.Transactions.note_change.Goals as goal

pub index_mut-requires : goal.index_mut-requires
index_mut-requires c = seat_inside c.args.self.now c.args.seat.now c.requires.seated

pub note_change-requires-clause-room : goal.note_change-requires-clause-room
note_change-requires-clause-room c =
    let items = c.args.self.now.active.items in
    let one = seat_one c.args.self.now c.args.seat.now c.requires.seated in
    let it : c.index_mut.result.now ≡ one.0 = c.index_mut.ensures.value ∙ read_at one.1 c.index_mut.result.now in
    subst CanNote (sym it) (c.requires.memory one.0 (active_there one.1) one.2)

pub note_change-requires-clause-sum : goal.note_change-requires-clause-sum
note_change-requires-clause-sum c =
    let old = c.args.self.now in
    let one = seat_one old c.args.seat.now c.requires.seated in
    let it : c.index_mut.result.now ≡ one.0 = c.index_mut.ensures.value ∙ read_at one.1 c.index_mut.result.now in
    let its : c.index_mut.result.now.txn.reserved ≡ one.0.txn.reserved = ap (λ (a : ActiveTxn). a.txn.reserved) it in
    let owes : one.0.txn.reserved ≡ reserved_for one.0.txn = one.0.txn.owed in
    let least = reserved_among one.0.txn (txns_in old) (txn_there one.1) in
    omega (arith, its, owes, least, old.sum, c.requires.room, old.room.short)

pub invariant_of-self : goal.invariant_of-self
invariant_of-self c =
    let old = c.args.self.now in
    let one = seat_one old c.args.seat.now c.requires.seated in
    let it : c.index_mut.result.now ≡ one.0 = c.index_mut.ensures.value ∙ read_at one.1 c.index_mut.result.now in
    let after = subst (λ (a : ActiveTxn). IsAfterChange a.txn c.args.entry c.note_change.new.self.txn) it c.note_change.ensures in
    let was = kept_in old in
    let now = kept_noted (becomes_at one.1 c.note_change.new.self (number_of one.0.txn) (λ t u. IsAfterChange t c.args.entry u) refl after) old.room.reserved old.next was in
    record { some = old.some; sum = omega (arith, now.sum, c.reserve.ensures.reserved, c.append.ensures.others.0, c.requires.cost); numbers = now.numbers; sessions = now.sessions; below = now.below }

pub returns-clause-noted : goal.returns-clause-noted
returns-clause-noted c =
    let old = c.args.self.now in
    let one = seat_one old c.args.seat.now c.requires.seated in
    let it : c.index_mut.result.now ≡ one.0 = c.index_mut.ensures.value ∙ read_at one.1 c.index_mut.result.now in
    becomes_at one.1 c.note_change.new.self c.args.seat.now.txn (λ t u. IsAfterChange t c.args.entry u)
    one.2
    (subst (λ (a : ActiveTxn). IsAfterChange a.txn c.args.entry c.note_change.new.self.txn) it c.note_change.ensures)

pub returns-clause-undos : goal.returns-clause-undos
returns-clause-undos c = undos_noted (returns-clause-noted c) c.args.self.now.numbers

pub returns-clause-claimed : goal.returns-clause-claimed
returns-clause-claimed c = let noted = returns-clause-noted c in claims_noted noted c.args.entry noted.becomes.entries

pub returns-clause-elsewhere : goal.returns-clause-elsewhere
returns-clause-elsewhere c = let noted = returns-clause-noted c in claims_elsewhere noted c.args.entry noted.becomes.entries

pub returns-clause-doubts : goal.returns-clause-doubts
returns-clause-doubts c = let noted = returns-clause-noted c in doubts_same noted (doubt_kept noted.before noted.after noted.becomes.txn noted.becomes.name noted.becomes.state)
