use Rattle.shore_txn.proofs.DoubtSteps.{doubts_answered}
use Rattle.std.proofs.Common.{◌≡◌, ap}
use Rattle.shore_txn.specs.TxnStates.{is_in_doubt}
use Rattle.shore_txn.specs.Txns.{IsAfterAnswer, state_of}
use Rattle.shore_txn.specs.declared.txn_state.TxnState.TheVariants as state
use Rattle.shore_txn.proofs.ActiveSteps.{KeepsChanges, answered_keeps, claims_same, kept_still, session_answered, undos_same}
use Rattle.shore_txn.proofs.Lending.{at_before, kept_in, lent_becomes, lent_holds}
use Rattle.shore_txn.proofs.Seats.{seat_inside}
use Rattle.shore_txn.proofs.transactions.Transactions.note_answer.Goals as goal

pub index_mut-requires : goal.index_mut-requires
index_mut-requires c = seat_inside c.args.self.now c.args.seat.now c.requires.seated

pub note_answer-requires : goal.note_answer-requires
note_answer-requires c =
    ap is_in_doubt (lent_holds c.args.self.now c.args.seat.now c.requires.seated c.index_mut.result.now c.index_mut.ensures.value (λ t. state_of t ≡ state.Preparing) c.requires.preparing)

pub returns-clause-answered : goal.returns-clause-answered
returns-clause-answered c =
    lent_becomes c.args.self.now c.args.seat.now c.requires.seated c.index_mut.result.now c.index_mut.ensures.value
    c.note_answer.new.self IsAfterAnswer c.note_answer.ensures

pub invariant_of-self : goal.invariant_of-self
invariant_of-self c =
    let old = c.args.self.now in
    let preparing = lent_holds old c.args.seat.now c.requires.seated c.index_mut.result.now c.index_mut.ensures.value (λ t. state_of t ≡ state.Preparing) c.requires.preparing in
    let kept = lent_becomes old c.args.seat.now c.requires.seated c.index_mut.result.now c.index_mut.ensures.value c.note_answer.new.self KeepsChanges
    (answered_keeps c.index_mut.result.now.txn c.note_answer.new.self.txn (ap is_in_doubt preparing) c.note_answer.ensures) in
    let now = kept_still kept old.room.reserved old.next (kept_in old) in
    record { some = old.some; sum = now.sum; numbers = now.numbers; sessions = now.sessions; below = now.below }

pub returns-clause-undos : goal.returns-clause-undos
returns-clause-undos c =
    let answered = returns-clause-answered c in
    undos_same answered (session_answered answered.before answered.after (at_before c.args.self.now c.args.seat.now answered (λ t. state_of t ≡ state.Preparing) c.requires.preparing) answered.becomes)

pub returns-clause-claims : goal.returns-clause-claims
returns-clause-claims c = let answered = returns-clause-answered c in claims_same answered answered.becomes.entries

pub returns-clause-doubts : goal.returns-clause-doubts
returns-clause-doubts c =
    let answered = returns-clause-answered c in
    doubts_answered answered c.args.self.now.numbers (at_before c.args.self.now c.args.seat.now answered (λ t. state_of t ≡ state.Preparing) c.requires.preparing)
