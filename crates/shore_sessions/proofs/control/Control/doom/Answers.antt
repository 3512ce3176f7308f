use Rattle.std.proofs.Common.{◌≡◌, true, false, refl, sym, ap, subst, ◌∙◌}
use Rattle.laws_lives.specs.Sessions.{SessionTxn}
use Rattle.laws_lives.specs.Views.{IsAmong}
use Rattle.shore_txn.specs.Transactions as table
use Rattle.shore_txn.specs.TxnStates.{is_in_doubt}
use Rattle.shore_txn.specs.Txns.{IsOf, number_of, state_of}
use Rattle.shore_txn.specs.declared.transactions.Transactions.{Transactions}
use Rattle.shore_txn.specs.declared.txn.Txn.{Txn}
use Rattle.shore_txn.proofs.ActiveSteps.{one_at_number}
use Rattle.shore_txn.proofs.OneOfMany.{among_middle}
use Rattle.shore_sessions.specs.Controls.{txns_in}
use Rattle.shore_sessions.proofs.NotedVictims.{lasts_doomed, names_doomed, own_doomed, rolled_doomed, txns_doomed}
use Rattle.shore_sessions.proofs.Seats.{in_none_of, seat_there}
use Rattle.shore_sessions.proofs.control.Control.doom.Goals as goal

-- a transaction of the table by its number
its_state : (txns : Transactions) (t u : Txn) → IsAmong t (table.txns_in txns) → IsAmong u (table.txns_in txns) → number_of t ≡ number_of u → is_in_doubt (state_of u) ≡ false → is_in_doubt (state_of t) ≡ false
its_state txns t u m n same free = ap (λ (x : Txn). is_in_doubt (state_of x)) (one_at_number (table.txns_in txns) txns.numbers t u m n same) ∙ free

pub doom-requires-clause-free : goal.doom-requires-clause-free
doom-requires-clause-free c t m at =
    its_state (txns_in c.args.self.now) t c.txn.result.now m c.txn.ensures.among (at ∙ sym c.txn.ensures.number) (sym c.is_in_doubt.ensures ∙ c.if-is_in_doubt.false)

pub returns-clause-rolled : goal.returns-clause-rolled
returns-clause-rolled c =
    let one = c.doom.ensures.doomed in
    rolled_doomed (txns_in c.args.self.now) c.doom.new.self one c.doom.ensures.undos
    (its_state (txns_in c.args.self.now) one.before c.txn.result.now (subst (IsAmong one.before) (sym one.was) (among_middle one.newer one.older one.before)) c.txn.ensures.among (one.txn ∙ sym c.txn.ensures.number)
    (sym c.is_in_doubt.ensures ∙ c.if-is_in_doubt.false))

pub returns-clause-keeps : goal.returns-clause-keeps
returns-clause-keeps c =
    let old = txns_in c.args.self.now in
    let new = c.doom.new.self in
    let one = c.doom.ensures.doomed in
    let free = its_state old one.before c.txn.result.now (subst (IsAmong one.before) (sym one.was) (among_middle one.newer one.older one.before)) c.txn.ensures.among (one.txn ∙ sym c.txn.ensures.number)
    (sym c.is_in_doubt.ensures ∙ c.if-is_in_doubt.false) in
    record {
      locks = refl;
      names = names_doomed old new one c.doom.ensures.undos free;
      own = own_doomed old new one c.doom.ensures.undos free;
      lasts = lasts_doomed old new one c.doom.ensures.undos free;
      next = c.doom.ensures.next;
      room = c.doom.ensures.room;
      claims = c.doom.ensures.claims;
      free = λ session none. none;
      memory = λ room. room;
    }

pub returns-clause-stands : goal.returns-clause-stands
returns-clause-stands c s b cycle was seat own =
    let old = txns_in c.args.self.now in
    let new = c.doom.new.self in
    let one = c.doom.ensures.doomed in
    let free = its_state old one.before c.txn.result.now (subst (IsAmong one.before) (sym one.was) (among_middle one.newer one.older one.before)) c.txn.ensures.among (one.txn ∙ sym c.txn.ensures.number)
    (sym c.is_in_doubt.ensures ∙ c.if-is_in_doubt.false) in
    let u = seat_there old s was b seat in
    let of = c.in-Some.ensures.own c.txn.result.now c.txn.ensures.among c.txn.ensures.number in
    let same = old.sessions c.args.session u.0 c.txn.result.now u.1 c.txn.ensures.among (subst (λ n. IsOf n u.0) own u.3) of in
    txns_doomed old new one c.doom.ensures.undos free c.doom.ensures.doubts c.doom.ensures.next c.doom.ensures.room s b cycle was seat.0
    (ap (λ (a : SessionTxn). a.txn) (sym u.2) ∙ same ∙ c.txn.ensures.number)

pub returns-in_default-clause-stands : goal.returns-in_default-clause-stands
returns-in_default-clause-stands c s b cycle was seat own = absurd (in_none_of (txns_in c.args.self.now) s was c.args.session c.in_default.ensures.none b (seat, own))

pub returns-then-is_in_doubt-clause-stands : goal.returns-then-is_in_doubt-clause-stands
returns-then-is_in_doubt-clause-stands c s b cycle was seat own =
    let old = txns_in c.args.self.now in
    let u = seat_there old s was b seat in
    let of = c.in-Some.ensures.own c.txn.result.now c.txn.ensures.among c.txn.ensures.number in
    let same = old.sessions c.args.session u.0 c.txn.result.now u.1 c.txn.ensures.among (subst (λ n. IsOf n u.0) own u.3) of in
    absurd (clash (sym c.if-is_in_doubt.true ∙ c.is_in_doubt.ensures ∙ its_state old c.txn.result.now u.0 c.txn.ensures.among u.1 (sym same) u.4))
  where
    clash : true ≡ false → ⊥
    clash e = cc
