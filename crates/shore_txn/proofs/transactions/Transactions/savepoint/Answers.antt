use Rattle.shore_txn.proofs.DoubtSteps.{doubt_kept, doubts_same}
use Rattle.std.proofs.Common.{◌≡◌, ℕ, Ok, Err, Result, length, sym, subst, ap, ◌∙◌, set}
use Rattle.std.specs.Prelude.{IfOk, OnErr, OnOk}
use Rattle.std.specs.declared.alloc.AllocError.{AllocError}
use Rattle.laws_lives.specs.Sessions.{SessionTxn, with_undo}
use Rattle.laws_lives.specs.Views.{IsAmong}
use Rattle.shore_txn.specs.ActiveTxns as active
use Rattle.shore_txn.specs.ActiveTxns.{OneBecomes, undos_of, with_mark}
use Rattle.shore_txn.specs.Transactions.{txns_in, undos_in}
use Rattle.shore_txn.specs.Txns.{HasMarkRoom, IsAfterSavepoint, SameTxn, as_session_txn, marks_of, as_prepared}
use Rattle.shore_txn.specs.declared.active.ActiveTxn.{ActiveTxn}
use Rattle.shore_txn.proofs.ActiveLemmas.{active_there, read_at}
use Rattle.shore_txn.proofs.ActiveSteps.{KeepsChanges, claims_still, kept_still, same_keeps, savepoint_keeps, session_marked, undos_by, undos_stay}
use Rattle.shore_txn.proofs.Lending.{kept_in, lent_becomes, lent_number, lent_there}
use Rattle.shore_txn.proofs.OneOfMany.{once_same}
use Rattle.shore_txn.proofs.Seats.{seat_inside, seat_one}
use Rattle.shore_txn.proofs.transactions.Transactions.savepoint.Goals as goal

pub index_mut-requires : goal.index_mut-requires
index_mut-requires c = seat_inside c.args.self.now c.args.seat.now c.requires.seated

pub savepoint-requires : goal.savepoint-requires
savepoint-requires c =
    let old = c.args.self.now in
    let few = c.requires.few (as_session_txn c.index_mut.result.now.txn)
    (lent_there old c.args.seat.now c.requires.seated c.index_mut.result.now c.index_mut.ensures.value)
    (lent_number old c.args.seat.now c.requires.seated c.index_mut.result.now c.index_mut.ensures.value) in
    record { few = few }

-- whether it is set or not
keeps : (r : Result ℕ AllocError) (t u : _) → OnOk r (IsAfterSavepoint t u) → OnErr r (SameTxn t u) → KeepsChanges t u
keeps (Ok index) t u set same = savepoint_keeps t u set
keeps (Err e) t u set same = same_keeps t u same

pub invariant_of-self : goal.invariant_of-self
invariant_of-self c =
    let old = c.args.self.now in
    let kept = lent_becomes old c.args.seat.now c.requires.seated c.index_mut.result.now c.index_mut.ensures.value
    c.savepoint.new.self KeepsChanges (keeps c.savepoint.result c.index_mut.result.now.txn c.savepoint.new.self.txn c.savepoint.ensures.set c.savepoint.ensures.same) in
    let now = kept_still kept old.room.reserved old.next (kept_in old) in
    record { some = old.some; sum = now.sum; numbers = now.numbers; sessions = now.sessions; below = now.below }

pub returns-clause-set : goal.returns-clause-set
returns-clause-set c = each c.savepoint.result c.savepoint.ensures.set
  where
    each : (r : Result ℕ AllocError) → OnOk r (IsAfterSavepoint c.index_mut.result.now.txn c.savepoint.new.self.txn)
        → OnOk r (OneBecomes c.args.seat.now.txn IsAfterSavepoint (txns_in c.args.self.now) (active.txns_of (set c.args.self.now.active.items c.args.seat.now.index c.savepoint.new.self)))
    each (Ok index) set = lent_becomes c.args.self.now c.args.seat.now c.requires.seated c.index_mut.result.now c.index_mut.ensures.value
        c.savepoint.new.self IsAfterSavepoint set
    each (Err e) none = none

pub returns-clause-same : goal.returns-clause-same
returns-clause-same c = each c.savepoint.result c.savepoint.ensures.same
  where
    each : (r : Result ℕ AllocError) → OnErr r (SameTxn c.index_mut.result.now.txn c.savepoint.new.self.txn)
        → OnErr r (OneBecomes c.args.seat.now.txn SameTxn (txns_in c.args.self.now) (active.txns_of (set c.args.self.now.active.items c.args.seat.now.index c.savepoint.new.self)))
    each (Err e) same = lent_becomes c.args.self.now c.args.seat.now c.requires.seated c.index_mut.result.now c.index_mut.ensures.value
        c.savepoint.new.self SameTxn same
    each (Ok index) none = none

pub returns-clause-index : goal.returns-clause-index
returns-clause-index c = each c.savepoint.result c.savepoint.ensures.index
  where
    lent : SessionTxn
    lent = as_session_txn c.index_mut.result.now.txn

    is_lent : (a : SessionTxn) → IsAmong a (undos_in c.args.self.now) → a.txn ≡ c.args.seat.now.txn → lent ≡ a
    is_lent a m its =
        let old = c.args.self.now in
        once_same (λ (b : SessionTxn). b.txn) (undos_in old) old.numbers lent a
        (lent_there old c.args.seat.now c.requires.seated c.index_mut.result.now c.index_mut.ensures.value) m
        (lent_number old c.args.seat.now c.requires.seated c.index_mut.result.now c.index_mut.ensures.value ∙ sym its)

    each : (r : Result ℕ AllocError) → IfOk r (λ index. index ≡ length (marks_of c.index_mut.result.now.txn))
        → IfOk r (λ index. (a : SessionTxn) → IsAmong a (undos_in c.args.self.now) → a.txn ≡ c.args.seat.now.txn → index ≡ length a.undo.marks)
    each (Ok index) is = λ a m its. is ∙ ap (λ (b : SessionTxn). length b.undo.marks) (is_lent a m its)
    each (Err e) none = none

pub returns-clause-undos : goal.returns-clause-undos
returns-clause-undos c = each c.savepoint.result (returns-clause-set c)
  where
    each : (r : Result ℕ AllocError) → OnOk r (OneBecomes c.args.seat.now.txn IsAfterSavepoint (txns_in c.args.self.now) (active.txns_of (set c.args.self.now.active.items c.args.seat.now.index c.savepoint.new.self)))
        → OnOk r ((a : SessionTxn) → IsAmong a (undos_in c.args.self.now) → a.txn ≡ c.args.seat.now.txn
        → undos_of (set c.args.self.now.active.items c.args.seat.now.index c.savepoint.new.self) ≡ with_undo a.txn (with_mark a.undo) (undos_in c.args.self.now))
    each (Ok index) one = undos_by one with_mark (session_marked one.before one.after one.becomes) c.args.self.now.numbers
    each (Err e) none = none

pub returns-clause-unchanged : goal.returns-clause-unchanged
returns-clause-unchanged c = each c.savepoint.result (returns-clause-same c)
  where
    each : (r : Result ℕ AllocError) → OnErr r (OneBecomes c.args.seat.now.txn SameTxn (txns_in c.args.self.now) (active.txns_of (set c.args.self.now.active.items c.args.seat.now.index c.savepoint.new.self)))
        → OnErr r (undos_of (set c.args.self.now.active.items c.args.seat.now.index c.savepoint.new.self) ≡ undos_in c.args.self.now)
    each (Err e) one = undos_stay one
    each (Ok index) none = none

pub returns-clause-claims : goal.returns-clause-claims
returns-clause-claims c =
    claims_still (lent_becomes c.args.self.now c.args.seat.now c.requires.seated c.index_mut.result.now c.index_mut.ensures.value
    c.savepoint.new.self KeepsChanges (keeps c.savepoint.result c.index_mut.result.now.txn c.savepoint.new.self.txn c.savepoint.ensures.set c.savepoint.ensures.same))

pub returns-clause-idle : goal.returns-clause-idle
returns-clause-idle c room =
    let one = seat_one c.args.self.now c.args.seat.now c.requires.seated in
    let it : c.index_mut.result.now ≡ one.0 = c.index_mut.ensures.value ∙ read_at one.1 c.index_mut.result.now in
    c.savepoint.ensures.idle (subst (λ (a : ActiveTxn). HasMarkRoom a.txn) (sym it) (room one.0 (active_there one.1) one.2))

same_doubt : (r : Result ℕ AllocError) (t u : _) → OnOk r (IsAfterSavepoint t u) → OnErr r (SameTxn t u) → as_prepared u ≡ as_prepared t
same_doubt (Ok index) t u set same = doubt_kept t u set.txn set.name set.state
same_doubt (Err e) t u set same = doubt_kept t u same.txn same.name same.state

pub returns-clause-doubts : goal.returns-clause-doubts
returns-clause-doubts c =
    let one = lent_becomes c.args.self.now c.args.seat.now c.requires.seated c.index_mut.result.now c.index_mut.ensures.value
    c.savepoint.new.self (λ t u. as_prepared u ≡ as_prepared t)
    (same_doubt c.savepoint.result c.index_mut.result.now.txn c.savepoint.new.self.txn c.savepoint.ensures.set c.savepoint.ensures.same) in
    doubts_same one one.becomes
