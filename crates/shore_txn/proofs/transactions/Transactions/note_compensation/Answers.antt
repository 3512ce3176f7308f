use Rattle.shore_txn.proofs.DoubtSteps.{doubt_free, doubts_same}
use Rattle.std.proofs.Common.{◌≡◌, ◌≢◌, false, ◌<◌, ◌∷◌, [], List, refl, ap, ◌∙◌, arith, length}
use Rattle.std.proofs.lemmas.List.{map-append}
use Rattle.shore_txn.specs.Transactions.{undos_in}
use Rattle.shore_txn.specs.TxnStates.{is_in_doubt}
use Rattle.shore_txn.specs.Txns.{IsAfterUndo, as_session_txn, entries_of, state_of}
use Rattle.shore_txn.specs.UndoEntries.{image_of, images_of}
use Rattle.shore_txn.specs.declared.undo.UndoEntry.{UndoEntry}
use Rattle.shore_txn.proofs.ActiveSteps.{before_among, claims_beside, claims_undone, costs_more, kept_undone, undos_undone}
use Rattle.shore_txn.proofs.Lending.{kept_in, lent_becomes, lent_holds, lent_number, lent_there, at_before}
use Rattle.shore_txn.proofs.OneOfMany.{owed_among}
use Rattle.shore_txn.proofs.Seats.{seat_inside}
use Rattle.shore_txn.proofs.transactions.Transactions.note_compensation.Goals as goal

some_entries : (es : List UndoEntry) → images_of es ≢ [] → 0 < length es
some_entries [] some = absurd (some refl)
some_entries (e ∷ es) some = omega arith

pub index_mut-requires : goal.index_mut-requires
index_mut-requires c = seat_inside c.args.self.now c.args.seat.now c.requires.seated

pub note_compensation-undone-requires-clause-free : goal.note_compensation-undone-requires-clause-free
note_compensation-undone-requires-clause-free c =
    lent_holds c.args.self.now c.args.seat.now c.requires.seated c.index_mut.result.now c.index_mut.ensures.value (λ t. is_in_doubt (state_of t) ≡ false) c.requires.free

pub note_compensation-undone-requires-clause-some : goal.note_compensation-undone-requires-clause-some
note_compensation-undone-requires-clause-some c =
    let old = c.args.self.now in
    let lent = c.index_mut.result.now in
    some_entries (entries_of lent.txn)
    (c.requires.some (as_session_txn lent.txn) (lent_there old c.args.seat.now c.requires.seated lent c.index_mut.ensures.value)
    (lent_number old c.args.seat.now c.requires.seated lent c.index_mut.ensures.value))

pub note_compensation-undone-requires-clause-cost : goal.note_compensation-undone-requires-clause-cost
note_compensation-undone-requires-clause-cost c kept e is =
    let old = c.args.self.now in
    let lent = c.index_mut.result.now in
    c.requires.cost (as_session_txn lent.txn) (images_of kept) (image_of e)
    (lent_there old c.args.seat.now c.requires.seated lent c.index_mut.ensures.value)
    (lent_number old c.args.seat.now c.requires.seated lent c.index_mut.ensures.value)
    (ap images_of is ∙ map-append image_of kept (e ∷ []))

pub release-requires : goal.release-requires
release-requires c =
    let old = c.args.self.now in
    let lent = c.index_mut.result.now in
    let there = lent_there old c.args.seat.now c.requires.seated lent c.index_mut.ensures.value in
    let its = lent_number old c.args.seat.now c.requires.seated lent c.index_mut.ensures.value in
    let undone = c.note_compensation-undone.result in
    let new = c.note_compensation-undone.new.self.txn in
    let cost = c.requires.cost (as_session_txn lent.txn) (images_of (entries_of new)) (image_of undone) there its
    (ap images_of c.note_compensation-undone.ensures.entries ∙ map-append image_of (entries_of new) (undone ∷ [])) in
    let more = costs_more new lent.txn undone c.note_compensation-undone.ensures.entries in
    let least = owed_among (as_session_txn lent.txn) (undos_in old) there in
    let sum = old.sum in
    omega (arith, cost, more, least, sum)

pub invariant_of-self : goal.invariant_of-self
invariant_of-self c =
    let old = c.args.self.now in
    let lent = c.index_mut.result.now in
    let there = lent_there old c.args.seat.now c.requires.seated lent c.index_mut.ensures.value in
    let its = lent_number old c.args.seat.now c.requires.seated lent c.index_mut.ensures.value in
    let undone = c.note_compensation-undone.result in
    let new = c.note_compensation-undone.new.self.txn in
    let cost = c.requires.cost (as_session_txn lent.txn) (images_of (entries_of new)) (image_of undone) there its
    (ap images_of c.note_compensation-undone.ensures.entries ∙ map-append image_of (entries_of new) (undone ∷ [])) in
    let becomes = lent_becomes old c.args.seat.now c.requires.seated lent c.index_mut.ensures.value
    c.note_compensation-undone.new.self (IsAfterUndo c.args.lsn c.args.rollback undone) c.note_compensation-undone.ensures in
    let now = kept_undone becomes (c.requires.free becomes.before (before_among becomes) becomes.txn) old.room.reserved old.next c.append.new.self.reserved (omega (arith, cost, c.release.ensures.reserved, c.append.ensures.others.0)) (kept_in old) in
    record { some = old.some; sum = now.sum; numbers = now.numbers; sessions = now.sessions; below = now.below }

pub returns-clause-undone : goal.returns-clause-undone
returns-clause-undone c =
    lent_becomes c.args.self.now c.args.seat.now c.requires.seated c.index_mut.result.now c.index_mut.ensures.value
    c.note_compensation-undone.new.self (IsAfterUndo c.args.lsn c.args.rollback c.note_compensation-undone.result) c.note_compensation-undone.ensures

pub returns-clause-undos : goal.returns-clause-undos
returns-clause-undos c = undos_undone (returns-clause-undone c) c.args.self.now.numbers

pub returns-clause-claimed : goal.returns-clause-claimed
returns-clause-claimed c = claims_undone (returns-clause-undone c)

pub returns-clause-elsewhere : goal.returns-clause-elsewhere
returns-clause-elsewhere c = claims_beside (returns-clause-undone c)

pub returns-clause-doubts : goal.returns-clause-doubts
returns-clause-doubts c =
    let undone = returns-clause-undone c in
    doubts_same undone (doubt_free undone.before undone.after (at_before c.args.self.now c.args.seat.now undone (λ t. is_in_doubt (state_of t) ≡ false) c.requires.free) (ap is_in_doubt undone.becomes.state))
