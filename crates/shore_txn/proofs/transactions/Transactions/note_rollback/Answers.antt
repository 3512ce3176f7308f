use Rattle.shore_txn.proofs.DoubtSteps.{doubt_none, doubts_less}
use Rattle.std.proofs.Common.{◌≡◌, true, arith, ap}
use Rattle.laws_lives.specs.UndoLists.{undo_rolled}
use Rattle.shore_model.specs.declared.rollbacks.Rollback.TheVariants.{Whole}
use Rattle.shore_txn.specs.TxnStates.{is_in_doubt}
use Rattle.shore_txn.specs.Transactions.{txns_in}
use Rattle.shore_txn.specs.Txns.{IsAfterDecision, state_of}
use Rattle.shore_txn.proofs.ActiveSteps.{claims_same, kept_decided, session_decided, undos_by}
use Rattle.shore_txn.proofs.Lending.{at_before, kept_in, lent_among, lent_becomes, lent_holds}
use Rattle.shore_txn.proofs.Reserves.{reserved_among}
use Rattle.shore_txn.proofs.Seats.{seat_inside}
use Rattle.shore_txn.proofs.transactions.Transactions.note_rollback.Goals as goal

pub index_mut-requires : goal.index_mut-requires
index_mut-requires c = seat_inside c.args.self.now c.args.seat.now c.requires.seated

pub note_rollback-requires : goal.note_rollback-requires
note_rollback-requires c =
    lent_holds c.args.self.now c.args.seat.now c.requires.seated c.index_mut.result.now c.index_mut.ensures.value (λ t. is_in_doubt (state_of t) ≡ true) c.requires.doubt

pub release-requires : goal.release-requires
release-requires c =
    let old = c.args.self.now in
    let lent = c.index_mut.result.now in
    let least = reserved_among lent.txn (txns_in old) (lent_among old c.args.seat.now c.requires.seated lent c.index_mut.ensures.value) in
    omega (arith, least, old.sum)

pub returns-clause-decided : goal.returns-clause-decided
returns-clause-decided c =
    lent_becomes c.args.self.now c.args.seat.now c.requires.seated c.index_mut.result.now c.index_mut.ensures.value
    c.note_rollback.new.self (IsAfterDecision c.args.lsn) c.note_rollback.ensures

pub invariant_of-self : goal.invariant_of-self
invariant_of-self c =
    let old = c.args.self.now in
    let decided = lent_becomes old c.args.seat.now c.requires.seated c.index_mut.result.now c.index_mut.ensures.value
    c.note_rollback.new.self (IsAfterDecision c.args.lsn) c.note_rollback.ensures in
    let now = kept_decided decided (at_before old c.args.seat.now decided (λ t. is_in_doubt (state_of t) ≡ true) c.requires.doubt) old.room.reserved old.next c.append.new.self.reserved
    (omega (arith, c.release.ensures.reserved, c.append.ensures.others.0)) (kept_in old) in
    record { some = old.some; sum = now.sum; numbers = now.numbers; sessions = now.sessions; below = now.below }

pub returns-clause-undos : goal.returns-clause-undos
returns-clause-undos c =
    let decided = returns-clause-decided c in
    undos_by decided (λ undo. undo_rolled undo undo.images Whole) (session_decided decided.before decided.after c.args.lsn decided.becomes) c.args.self.now.numbers

pub returns-clause-claims : goal.returns-clause-claims
returns-clause-claims c = let decided = returns-clause-decided c in claims_same decided decided.becomes.entries

pub returns-clause-doubts : goal.returns-clause-doubts
returns-clause-doubts c =
    let decided = returns-clause-decided c in
    doubts_less decided c.args.self.now.numbers (doubt_none decided.after decided.before (ap is_in_doubt decided.becomes.state))
