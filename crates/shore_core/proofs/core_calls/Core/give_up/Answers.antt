use Rattle.std.proofs.Common.{◌<◌, ◌≤◌, ◌+◌, inl, inr, length, refl, sym, ap, subst, ◌∙◌}
use Rattle.shore_types.specs.declared.layout.TheConstants.{LAST_OPENED}
use Rattle.laws_lives.specs.Views.{IsAmong}
use Rattle.laws_calls.specs.States.{State, page_slots}
use Rattle.shore_txn.specs.Transactions as table
use Rattle.shore_txn.specs.Transactions.{kept_in, room_in}
use Rattle.shore_txn.specs.Txns.{last_of}
use Rattle.shore_txn.specs.declared.transactions.Transactions.{Transactions}
use Rattle.shore_txn.specs.declared.txn.Txn.{Txn}
use Rattle.shore_core.specs.Cores.{CoreComesTo, first_of, waiting_of}
use Rattle.shore_core.proofs.Coming.{comes_same}
use Rattle.shore_core.proofs.Moving.{comes_moved}
use Rattle.shore_core.proofs.SameCore.{same_core}
use Rattle.shore_core.proofs.Serving.{serves_still}
use Rattle.shore_core.proofs.Taking.{true_false}
use Rattle.shore_core.proofs.core_calls.Core.give_up.Goals as goal

pub returns-then-self-clause-step : goal.returns-then-self-clause-step
returns-then-self-clause-step g c front disk before s store is safe over = record {
  later = s;
  moves = inr (record { none = λ works. absurd (true_false (sym (is.beside.parts.failed_is ∙ c.if-self.true) ∙ works)); told = refl; is = refl });
  comes = comes_same c.args.self.now front disk before s store is over;
}

pub returns-then-self-clause-serves : goal.returns-then-self-clause-serves
returns-then-self-clause-serves g c = serves_still _ _ _ _ _ refl refl refl refl tt

pub invariant_of-self : goal.invariant_of-self
invariant_of-self g c =
    let old = c.args.self.now in
    let txns = sym c.give_up.ensures.txns in
    let next = first_of old + length (waiting_of old) in
    record {
      some_number = old.some_number;
      forced = old.forced;
      numbers = subst (λ x. next + (room_in x).reserved ≤ LAST_OPENED) txns old.numbers;
      earlier = subst (λ x. (t : Txn) → IsAmong t (table.txns_in x) → last_of t < next) txns old.earlier;
    }

pub returns-in-Some-clause-step : goal.returns-in-Some-clause-step
returns-in-Some-clause-step g c front disk before s store is safe over =
    let old = c.args.self.now in
    let given = c.in-Some.ensures.gives s is.beside.parts.stands (is.beside.parts.failed_is ∙ c.if-self.false) in
    let later : State = given.0 in
    record {
      later = later;
      moves = inl given.1;
      comes = comes_moved old _ front disk before s later store refl refl refl refl refl (λ p. ap (λ (t : Transactions). kept_in t p) c.give_up.ensures.txns) given.2
          (ap (λ (x : State). x.log) given.1.is) (ap (λ (x : State). x.durable) given.1.is) (ap (λ (x : State). x.failed) given.1.is) (λ p. ap (λ (x : State). page_slots x p) given.1.is) is over;
    }

pub returns-in-None-clause-step : goal.returns-in-None-clause-step
returns-in-None-clause-step g c front disk before s store is safe over = record {
  later = s;
  moves = inr (record { none = λ works. c.in-None.ensures.none s is.beside.parts.stands; told = refl; is = refl });
  comes = subst (λ core. CoreComesTo core front before store s) (sym (same_core c.args.self.now c.give_up.new.self c.in-None.ensures.same _ _ _ _)) (comes_same c.args.self.now front disk before s store is over);
}

pub returns-in-None-clause-nothing : goal.returns-in-None-clause-nothing
returns-in-None-clause-nothing g c nothing = same_core c.args.self.now c.give_up.new.self c.in-None.ensures.same _ _ _ _

pub returns-in-Some-clause-serves : goal.returns-in-Some-clause-serves
returns-in-Some-clause-serves g c = serves_still _ _ _ _ _ refl refl refl refl tt

pub returns-in-None-clause-serves : goal.returns-in-None-clause-serves
returns-in-None-clause-serves g c = serves_still _ _ _ _ _ refl refl refl refl tt
