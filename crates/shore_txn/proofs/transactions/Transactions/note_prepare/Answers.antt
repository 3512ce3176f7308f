use Rattle.shore_txn.proofs.DoubtSteps.{doubt_none, doubt_prepared, doubts_more}
use Rattle.std.proofs.Common.{◌≡◌, ap, arith, Some, false, ◌∙◌}
use Rattle.shore_txn.specs.TxnStates.{is_in_doubt}
use Rattle.shore_txn.specs.Transactions.{txns_in}
use Rattle.shore_txn.specs.Txns.{IsAfterPrepare, reserved_for, state_of}
use Rattle.shore_txn.specs.declared.txn_state.TxnState.TheVariants as state
use Rattle.shore_txn.proofs.ActiveSteps.{claims_same, kept_prepared, undos_prepared}
use Rattle.shore_txn.proofs.Lending.{at_before, kept_in, lent_among, lent_becomes, lent_holds}
use Rattle.shore_txn.proofs.Reserves.{reserved_among}
use Rattle.shore_txn.proofs.Seats.{seat_inside}
use Rattle.shore_txn.proofs.transactions.Transactions.note_prepare.Goals as goal

pub index_mut-requires : goal.index_mut-requires
index_mut-requires c = seat_inside c.args.self.now c.args.seat.now c.requires.seated

pub note_prepare-requires-clause-free : goal.note_prepare-requires-clause-free
note_prepare-requires-clause-free c =
    ap is_in_doubt (lent_holds c.args.self.now c.args.seat.now c.requires.seated c.index_mut.result.now c.index_mut.ensures.value (λ t. state_of t ≡ state.Active) c.requires.active)

pub note_prepare-requires-clause-sum : goal.note_prepare-requires-clause-sum
note_prepare-requires-clause-sum c =
    let old = c.args.self.now in
    let lent = c.index_mut.result.now in
    let least = reserved_among lent.txn (txns_in old) (lent_among old c.args.seat.now c.requires.seated lent c.index_mut.ensures.value) in
    let owes : lent.txn.reserved ≡ reserved_for lent.txn = lent.txn.owed in
    omega (arith, owes, least, old.sum, c.requires.room, old.room.short)

pub returns-clause-noted : goal.returns-clause-noted
returns-clause-noted c =
    lent_becomes c.args.self.now c.args.seat.now c.requires.seated c.index_mut.result.now c.index_mut.ensures.value
    c.note_prepare.new.self (IsAfterPrepare c.args.global c.args.lsn) c.note_prepare.ensures

pub invariant_of-self : goal.invariant_of-self
invariant_of-self c =
    let old = c.args.self.now in
    let noted = lent_becomes old c.args.seat.now c.requires.seated c.index_mut.result.now c.index_mut.ensures.value
    c.note_prepare.new.self (IsAfterPrepare c.args.global c.args.lsn) c.note_prepare.ensures in
    let now = kept_prepared noted (at_before old c.args.seat.now noted (λ t. state_of t ≡ state.Active) c.requires.active) old.room.reserved old.next (kept_in old) in
    record { some = old.some; sum = omega (arith, now.sum, c.reserve.ensures.reserved, c.append.ensures.others.0); numbers = now.numbers; sessions = now.sessions; below = now.below }

pub returns-clause-undos : goal.returns-clause-undos
returns-clause-undos c =
    let noted = returns-clause-noted c in
    undos_prepared noted (at_before c.args.self.now c.args.seat.now noted (λ t. state_of t ≡ state.Active) c.requires.active)

pub returns-clause-claims : goal.returns-clause-claims
returns-clause-claims c = let noted = returns-clause-noted c in claims_same noted noted.becomes.entries

pub returns-clause-doubts : goal.returns-clause-doubts
returns-clause-doubts c =
    let noted = returns-clause-noted c in
    let active = at_before c.args.self.now c.args.seat.now noted (λ t. state_of t ≡ state.Active) c.requires.active in
    doubts_more noted (record { txn = c.args.seat.now.txn; global = c.args.global; answered = false }) (doubt_none noted.before noted.after (ap is_in_doubt active))
    (doubt_prepared noted.before noted.after c.args.global c.args.lsn noted.becomes ∙ ap (λ n. Some (record { txn = n; global = c.args.global; answered = false })) noted.txn)
