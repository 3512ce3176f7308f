use Rattle.shore_txn.proofs.DoubtSteps.{doubt_kept, doubts_same}
use Rattle.std.proofs.Common.{◌≡◌, refl, sym, subst, ◌∙◌, OnOk, Ok, Err, Result, set}
use Rattle.std.specs.declared.alloc.AllocError.{AllocError}
use Rattle.laws_lives.specs.Views.{IsAmong}
use Rattle.shore_txn.specs.ActiveTxns.{CanNote}
use Rattle.shore_txn.specs.Txns.{SameTxn, number_of}
use Rattle.shore_txn.specs.declared.active.ActiveTxn.{ActiveTxn}
use Rattle.shore_txn.proofs.ActiveLemmas.{active_there, read_at, room_at}
use Rattle.shore_txn.proofs.ActiveSteps.{KeepsChanges, becomes_at, claims_stay, kept_still, same_keeps, undos_stay}
use Rattle.shore_txn.proofs.Lending.{kept_in}
use Rattle.shore_txn.proofs.Seats.{seat_inside, seat_one}
use Rattle.shore_txn.proofs.transactions.Transactions.reserve_entry.Goals as goal

pub index_mut-requires : goal.index_mut-requires
index_mut-requires c = seat_inside c.args.self.now c.args.seat.now c.requires.seated

pub invariant_of-self : goal.invariant_of-self
invariant_of-self c =
    let old = c.args.self.now in
    let one = seat_one old c.args.seat.now c.requires.seated in
    let it : c.index_mut.result.now ≡ one.0 = c.index_mut.ensures.value ∙ read_at one.1 c.index_mut.result.now in
    let one_becomes = becomes_at one.1 c.reserve_entry.new.self (number_of one.0.txn) KeepsChanges refl
    (same_keeps one.0.txn c.reserve_entry.new.self.txn (subst (λ (a : ActiveTxn). SameTxn a.txn c.reserve_entry.new.self.txn) it c.reserve_entry.ensures.same)) in
    let now = kept_still one_becomes old.room.reserved old.next (kept_in old) in
    record { some = old.some; sum = now.sum; numbers = now.numbers; sessions = now.sessions; below = now.below }

pub returns-clause-memory : goal.returns-clause-memory
returns-clause-memory c = each c.reserve_entry.result c.reserve_entry.ensures.room
  where
    each : (r : Result (Unit {0}) AllocError) → OnOk r (CanNote c.reserve_entry.new.self)
        → OnOk r ((x : ActiveTxn) → IsAmong x (set c.args.self.now.active.items c.args.seat.now.index c.reserve_entry.new.self) → number_of x.txn ≡ c.args.seat.now.txn → CanNote x)
    each (Err e) none = tt
    each (Ok x) room =
        let one = seat_one c.args.self.now c.args.seat.now c.requires.seated in
        room_at one.1 c.args.self.now.numbers CanNote c.reserve_entry.new.self c.args.seat.now.txn one.2 room

pub returns-clause-same : goal.returns-clause-same
returns-clause-same c =
    let one = seat_one c.args.self.now c.args.seat.now c.requires.seated in
    let it : c.index_mut.result.now ≡ one.0 = c.index_mut.ensures.value ∙ read_at one.1 c.index_mut.result.now in
    becomes_at one.1 c.reserve_entry.new.self c.args.seat.now.txn SameTxn one.2
    (subst (λ (a : ActiveTxn). SameTxn a.txn c.reserve_entry.new.self.txn) it c.reserve_entry.ensures.same)

pub returns-clause-undos : goal.returns-clause-undos
returns-clause-undos c = undos_stay (returns-clause-same c)

pub returns-clause-claims : goal.returns-clause-claims
returns-clause-claims c = claims_stay (returns-clause-same c)

pub returns-clause-idle : goal.returns-clause-idle
returns-clause-idle c room =
    let one = seat_one c.args.self.now c.args.seat.now c.requires.seated in
    let it : c.index_mut.result.now ≡ one.0 = c.index_mut.ensures.value ∙ read_at one.1 c.index_mut.result.now in
    c.reserve_entry.ensures.idle (subst CanNote (sym it) (room one.0 (active_there one.1) one.2))

pub returns-clause-doubts : goal.returns-clause-doubts
returns-clause-doubts c = let same = returns-clause-same c in doubts_same same (doubt_kept same.before same.after same.becomes.txn same.becomes.name same.becomes.state)
