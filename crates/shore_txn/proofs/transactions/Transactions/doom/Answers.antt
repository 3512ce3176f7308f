use Rattle.shore_txn.proofs.DoubtSteps.{doubt_free, doubts_same}
use Rattle.std.proofs.Common.{◌≡◌, false, ap, ◌∙◌}
use Rattle.laws_lives.specs.UndoLists.{undo_rolled}
use Rattle.shore_model.specs.declared.rollbacks.Rollback.TheVariants.{Whole}
use Rattle.shore_txn.specs.TxnStates.{is_in_doubt}
use Rattle.shore_txn.specs.Txns.{IsDoomed, state_of}
use Rattle.shore_txn.proofs.Dooms.{free_doomed}
use Rattle.shore_txn.proofs.ActiveSteps.{KeepsChanges, claims_still, doomed_keeps, kept_still, session_doomed, undos_by}
use Rattle.shore_txn.proofs.Lending.{kept_in, lent_becomes, lent_holds, at_before}
use Rattle.shore_txn.proofs.Seats.{seat_inside}
use Rattle.shore_txn.proofs.transactions.Transactions.doom.Goals as goal

pub index_mut-requires : goal.index_mut-requires
index_mut-requires c = seat_inside c.args.self.now c.args.seat.now c.requires.seated

pub doom-requires : goal.doom-requires
doom-requires c = record { free = lent_holds c.args.self.now c.args.seat.now c.requires.seated c.index_mut.result.now c.index_mut.ensures.value (λ t. is_in_doubt (state_of t) ≡ false) c.requires.free }

pub returns-clause-doomed : goal.returns-clause-doomed
returns-clause-doomed c =
    lent_becomes c.args.self.now c.args.seat.now c.requires.seated c.index_mut.result.now c.index_mut.ensures.value
    c.doom.new.self IsDoomed c.doom.ensures

pub invariant_of-self : goal.invariant_of-self
invariant_of-self c =
    let old = c.args.self.now in
    let kept = lent_becomes c.args.self.now c.args.seat.now c.requires.seated c.index_mut.result.now c.index_mut.ensures.value c.doom.new.self KeepsChanges
    (doomed_keeps c.index_mut.result.now.txn c.doom.new.self.txn
    (lent_holds c.args.self.now c.args.seat.now c.requires.seated c.index_mut.result.now c.index_mut.ensures.value (λ t. is_in_doubt (state_of t) ≡ false) c.requires.free) c.doom.ensures) in
    let now = kept_still kept old.room.reserved old.next (kept_in old) in
    record { some = old.some; sum = now.sum; numbers = now.numbers; sessions = now.sessions; below = now.below }

pub returns-clause-undos : goal.returns-clause-undos
returns-clause-undos c =
    let doomed = returns-clause-doomed c in
    undos_by doomed (λ undo. undo_rolled undo undo.images Whole) (session_doomed doomed.before doomed.after doomed.becomes) c.args.self.now.numbers

pub returns-clause-claims : goal.returns-clause-claims
returns-clause-claims c =
    claims_still
    (lent_becomes c.args.self.now c.args.seat.now c.requires.seated c.index_mut.result.now c.index_mut.ensures.value c.doom.new.self KeepsChanges
    (doomed_keeps c.index_mut.result.now.txn c.doom.new.self.txn
    (lent_holds c.args.self.now c.args.seat.now c.requires.seated c.index_mut.result.now c.index_mut.ensures.value (λ t. is_in_doubt (state_of t) ≡ false) c.requires.free) c.doom.ensures))

pub returns-clause-doubts : goal.returns-clause-doubts
returns-clause-doubts c =
    let doomed = returns-clause-doomed c in
    doubts_same doomed (doubt_free doomed.before doomed.after (at_before c.args.self.now c.args.seat.now doomed (λ t. is_in_doubt (state_of t) ≡ false) c.requires.free) (ap is_in_doubt doomed.becomes.state ∙ free_doomed (state_of doomed.before)))
