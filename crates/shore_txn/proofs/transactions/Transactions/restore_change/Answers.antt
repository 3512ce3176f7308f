use Rattle.shore_txn.specs.ActiveTxns.{CanNote}
use Rattle.shore_txn.proofs.ActiveLemmas.{active_there, read_at}
use Rattle.shore_txn.proofs.DoubtSteps.{doubt_kept, doubts_same}
use Rattle.std.proofs.Common.{◌≡◌, arith, ◌∙◌, subst, sym}
use Rattle.std.proofs.lemmas.Result.{err_from_is_err_and}
use Rattle.shore_txn.specs.Transactions.{txns_in}
use Rattle.shore_txn.specs.Txns.{IsAfterChange, SameTxn, reserved_for}
use Rattle.shore_txn.proofs.ActiveSteps.{KeepsChanges, kept_noted, kept_still, same_keeps, undos_noted, claims_noted, claims_elsewhere}
use Rattle.shore_txn.proofs.Lending.{kept_in, lent_among, lent_becomes}
use Rattle.shore_txn.proofs.Reserves.{reserved_among}
use Rattle.shore_txn.proofs.Seats.{seat_inside, seat_one}
use Rattle.shore_txn.proofs.transactions.Transactions.restore_change.Goals as goal

pub index_mut-requires : goal.index_mut-requires
index_mut-requires c = seat_inside c.args.self.now c.args.seat.now c.requires.seated

pub restore_change-requires-clause-sum : goal.restore_change-requires-clause-sum
restore_change-requires-clause-sum c =
    let old = c.args.self.now in
    let lent = c.index_mut.result.now in
    let least = reserved_among lent.txn (txns_in old) (lent_among old c.args.seat.now c.requires.seated lent c.index_mut.ensures.value) in
    let owes : lent.txn.reserved ≡ reserved_for lent.txn = lent.txn.owed in
    omega (arith, owes, least, old.sum, c.requires.room, old.room.short)

pub invariant_of-self : goal.invariant_of-self
invariant_of-self c =
    let old = c.args.self.now in
    let kept = lent_becomes old c.args.seat.now c.requires.seated c.index_mut.result.now c.index_mut.ensures.value c.restore_change.new.self KeepsChanges
    (same_keeps c.index_mut.result.now.txn c.restore_change.new.self.txn c.in_err-restore_change.ensures.same) in
    let now = kept_still kept old.room.reserved old.next (kept_in old) in
    record { some = old.some; sum = now.sum; numbers = now.numbers; sessions = now.sessions; below = now.below }

pub returns-in_err-restore_change-clause-same : goal.returns-in_err-restore_change-clause-same
returns-in_err-restore_change-clause-same c =
    let p = err_from_is_err_and c.from_residual.result c.from_residual.ensures.1 in
    rw p.1
    (lent_becomes c.args.self.now c.args.seat.now c.requires.seated c.index_mut.result.now c.index_mut.ensures.value c.restore_change.new.self SameTxn c.in_err-restore_change.ensures.same)

pub returns-clause-noted : goal.returns-clause-noted
returns-clause-noted c =
    lent_becomes c.args.self.now c.args.seat.now c.requires.seated c.index_mut.result.now c.index_mut.ensures.value
    c.restore_change.new.self (λ t u. IsAfterChange t c.args.entry u) c.in_ok-restore_change.ensures.noted

pub invariant_of-self-2 : goal.invariant_of-self-2
invariant_of-self-2 c =
    let old = c.args.self.now in
    let noted = lent_becomes old c.args.seat.now c.requires.seated c.index_mut.result.now c.index_mut.ensures.value
    c.restore_change.new.self (λ t u. IsAfterChange t c.args.entry u) c.in_ok-restore_change.ensures.noted in
    let now = kept_noted noted old.room.reserved old.next (kept_in old) in
    record { some = old.some; sum = omega (arith, now.sum, c.reserve.ensures.reserved, c.requires.cost); numbers = now.numbers; sessions = now.sessions; below = now.below }

pub returns-clause-undos : goal.returns-clause-undos
returns-clause-undos c = undos_noted (returns-clause-noted c) c.args.self.now.numbers

pub returns-in_err-restore_change-clause-doubts : goal.returns-in_err-restore_change-clause-doubts
returns-in_err-restore_change-clause-doubts c =
    let same = lent_becomes c.args.self.now c.args.seat.now c.requires.seated c.index_mut.result.now c.index_mut.ensures.value c.restore_change.new.self SameTxn c.in_err-restore_change.ensures.same in
    doubts_same same (doubt_kept same.before same.after same.becomes.txn same.becomes.name same.becomes.state)

pub returns-clause-doubts : goal.returns-clause-doubts
returns-clause-doubts c = let noted = returns-clause-noted c in doubts_same noted (doubt_kept noted.before noted.after noted.becomes.txn noted.becomes.name noted.becomes.state)

pub returns-clause-claimed : goal.returns-clause-claimed
returns-clause-claimed c = let noted = returns-clause-noted c in claims_noted noted c.args.entry noted.becomes.entries

pub returns-clause-elsewhere : goal.returns-clause-elsewhere
returns-clause-elsewhere c = let noted = returns-clause-noted c in claims_elsewhere noted c.args.entry noted.becomes.entries

pub returns-in_err-restore_change-clause-idle : goal.returns-in_err-restore_change-clause-idle
returns-in_err-restore_change-clause-idle c room =
    let one = seat_one c.args.self.now c.args.seat.now c.requires.seated in
    let it : c.index_mut.result.now ≡ one.0 = c.index_mut.ensures.value ∙ read_at one.1 c.index_mut.result.now in
    absurd (let done = c.in_err-restore_change.ensures.idle (subst CanNote (sym it) (room one.0 (active_there one.1) one.2)) in cc)
