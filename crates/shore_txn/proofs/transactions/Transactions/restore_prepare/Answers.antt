use Rattle.shore_txn.proofs.DoubtSteps.{doubt_none, doubt_found, doubts_more}
use Rattle.std.proofs.Common.{◌≡◌, ap, ◌∙◌, arith, Some, true}
use Rattle.shore_txn.specs.TxnStates.{is_in_doubt}
use Rattle.shore_txn.specs.Transactions.{txns_in}
use Rattle.shore_txn.specs.Txns.{IsFoundPrepared, reserved_for, state_of}
use Rattle.shore_txn.specs.declared.txn_state.TxnState.TheVariants as state
use Rattle.shore_txn.proofs.ActiveSteps.{claims_same, kept_found, undos_found}
use Rattle.shore_txn.proofs.Lending.{at_before, kept_in, lent_among, lent_becomes, lent_holds}
use Rattle.shore_txn.proofs.Reserves.{reserved_among}
use Rattle.shore_txn.proofs.Seats.{seat_inside}
use Rattle.shore_txn.proofs.transactions.Transactions.restore_prepare.Goals as goal

pub index_mut-requires : goal.index_mut-requires
index_mut-requires c = seat_inside c.args.self.now c.args.seat.now c.requires.seated

pub find_prepared-requires-clause-free : goal.find_prepared-requires-clause-free
find_prepared-requires-clause-free c =
    ap is_in_doubt (lent_holds c.args.self.now c.args.seat.now c.requires.seated c.index_mut.result.now c.index_mut.ensures.value (λ t. state_of t ≡ state.Active) c.requires.active)

pub find_prepared-requires-clause-sum : goal.find_prepared-requires-clause-sum
find_prepared-requires-clause-sum c =
    let old = c.args.self.now in
    let lent = c.index_mut.result.now in
    let least = reserved_among lent.txn (txns_in old) (lent_among old c.args.seat.now c.requires.seated lent c.index_mut.ensures.value) in
    let owes : lent.txn.reserved ≡ reserved_for lent.txn = lent.txn.owed in
    omega (arith, owes, least, old.sum, c.requires.room, old.room.short)

pub returns-clause-found : goal.returns-clause-found
returns-clause-found c =
    lent_becomes c.args.self.now c.args.seat.now c.requires.seated c.index_mut.result.now c.index_mut.ensures.value
    c.find_prepared.new.self (IsFoundPrepared c.args.global c.args.lsn) c.find_prepared.ensures

pub invariant_of-self : goal.invariant_of-self
invariant_of-self c =
    let old = c.args.self.now in
    let found = lent_becomes old c.args.seat.now c.requires.seated c.index_mut.result.now c.index_mut.ensures.value
    c.find_prepared.new.self (IsFoundPrepared c.args.global c.args.lsn) c.find_prepared.ensures in
    let now = kept_found found (at_before old c.args.seat.now found (λ t. state_of t ≡ state.Active) c.requires.active) old.room.reserved old.next (kept_in old) in
    record { some = old.some; sum = c.reserve.ensures.reserved ∙ now.sum; numbers = now.numbers; sessions = now.sessions; below = now.below }

pub returns-clause-undos : goal.returns-clause-undos
returns-clause-undos c =
    let found = returns-clause-found c in
    undos_found found (at_before c.args.self.now c.args.seat.now found (λ t. state_of t ≡ state.Active) c.requires.active)

pub returns-clause-claims : goal.returns-clause-claims
returns-clause-claims c = let found = returns-clause-found c in claims_same found found.becomes.entries

pub returns-clause-doubts : goal.returns-clause-doubts
returns-clause-doubts c =
    let found = returns-clause-found c in
    let active = at_before c.args.self.now c.args.seat.now found (λ t. state_of t ≡ state.Active) c.requires.active in
    doubts_more found (record { txn = c.args.seat.now.txn; global = c.args.global; answered = true }) (doubt_none found.before found.after (ap is_in_doubt active))
    (doubt_found found.before found.after c.args.global c.args.lsn found.becomes ∙ ap (λ n. Some (record { txn = n; global = c.args.global; answered = true })) found.txn)
