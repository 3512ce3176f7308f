use Rattle.std.proofs.Common.{◌≡◌, ◌<◌, ◌≤◌, ◌+◌, inl, inr, true, length, refl, sym, ap, subst, ◌∙◌, IfErr, Result}
use Rattle.shore_types.specs.declared.layout.TheConstants.{LAST_OPENED}
use Rattle.laws_lives.specs.Views.{IsAmong}
use Rattle.laws_calls.specs.StateChanges.{wait_refused}
use Rattle.laws_calls.specs.States.{State}
use Rattle.shore_sessions.specs.Calls.{as_waiting}
use Rattle.shore_sessions.specs.Standing.{HasControl}
use Rattle.shore_txn.specs.Transactions as table
use Rattle.shore_txn.specs.Transactions.{kept_in, room_in}
use Rattle.shore_txn.specs.Txns.{last_of}
use Rattle.shore_txn.specs.declared.transactions.Transactions.{Transactions}
use Rattle.shore_txn.specs.declared.txn.Txn.{Txn}
use Rattle.shore_core.specs.Cores.{first_of, waiting_of}
use Rattle.shore_core.proofs.Coming.{comes_same}
use Rattle.shore_core.proofs.Going.{asks_lock}
use Rattle.shore_core.proofs.Moving.{comes_moved}
use Rattle.shore_core.proofs.Settling.{resumed_at_once, resumed_to_nothing}
use Rattle.shore_core.proofs.Tables.{some_or}
use Rattle.shore_core.proofs.Taking.{true_false}
use Rattle.shore_types.specs.declared.faults.Fault.{Fault}
use Rattle.shore_core.proofs.Serving.{IsAside, serves_alone, serves_still}
use Rattle.shore_core.proofs.core_calls.Core.resume.Goals as goal

pub returns-in_default-clause-step : goal.returns-in_default-clause-step
returns-in_default-clause-step g c front disk before s store is safe over = record {
  later = s;
  moves = resumed_to_nothing _ s s c.args.session _ (inl (c.in_default.ensures.does_not s is.beside.parts.stands, refl, refl)) refl;
  comes = comes_same c.args.self.now front disk before s store is over;
}

pub invariant_of-self : goal.invariant_of-self
invariant_of-self g c =
    let old = c.args.self.now in
    let txns = sym c.take_wait.ensures.txns in
    let next = first_of old + length (waiting_of old) in
    record {
      some_number = old.some_number;
      forced = old.forced;
      numbers = subst (λ x. next + (room_in x).reserved ≤ LAST_OPENED) txns old.numbers;
      earlier = subst (λ x. (t : Txn) → IsAmong t (table.txns_in x) → last_of t < next) txns old.earlier;
    }

pub returns-then-self-clause-step : goal.returns-then-self-clause-step
returns-then-self-clause-step g c front disk before s store is safe over =
    let old = c.args.self.now in
    let w = c.in-Some.waiting.now in
    let was = is.beside.parts.stands in
    let fails : s.failed ≡ true = is.beside.parts.failed_is ∙ c.if-self.true in
    let there = c.in-Some.ensures.waits s was in
    let same = c.in-Some.ensures.some.1 in
    let later : State = wait_refused s c.args.session in
    let stands : HasControl c.take_wait.new.self later =
    some_or _ _ (HasControl c.take_wait.new.self later) c.take_wait.result c.take_wait.ensures.stands c.take_wait.ensures.same
    (λ v holds. holds s was (λ works. absurd (true_false (sym fails ∙ works)))) (λ holds. absurd ((holds s was).0 (as_waiting w) there same)) in
    record {
      later = later;
      moves = resumed_at_once _ s later c.args.session _ tt (inr (as_waiting w, there, same, inl (fails, refl, ap (wait_refused s) (sym same))));
      comes = comes_moved old _ front disk before s later store refl refl refl refl refl (λ p. ap (λ (t : Transactions). kept_in t p) c.take_wait.ensures.txns) stands refl refl refl (λ p. refl) is over;
    }

pub returns-in-Durable-clause-step : goal.returns-in-Durable-clause-step
returns-in-Durable-clause-step g c front disk before s store is safe over =
    let w = c.in-Some.waiting.now in
    c.resume_durable.ensures.step c.if-self.false front disk before s store is safe over w c.in-Some.ensures.some.0 c.in-Some.ensures.some.1 c.in-Durable.is c.awaited_by-awaited.ensures

pub returns-in-Lock-clause-step : goal.returns-in-Lock-clause-step
returns-in-Lock-clause-step g c front disk before s store is safe over =
    let w = c.in-Some.waiting.now in
    let was = is.beside.parts.stands in
    let its = c.in-Some.ensures.asks (asks_lock w _ c.in-Lock.is) s was in
    c.resume_call.ensures.step c.if-self.false front disk before s store is safe over (as_waiting w) (c.in-Some.ensures.waits s was) c.in-Some.ensures.some.1 c.in-Lock.is its.0 its.1 its.2

pub returns-in_default-clause-serves : goal.returns-in_default-clause-serves
returns-in_default-clause-serves g c = serves_still _ _ _ _ _ refl refl refl refl tt

pub returns-then-self-clause-serves : goal.returns-then-self-clause-serves
returns-then-self-clause-serves g c = serves_still _ _ _ _ _ refl refl refl refl tt

pub returns-in-Lock-clause-serves : goal.returns-in-Lock-clause-serves
returns-in-Lock-clause-serves g c = c.resume_call.ensures.serves

pub returns-in-Durable-clause-serves : goal.returns-in-Durable-clause-serves
returns-in-Durable-clause-serves g c =
    serves_alone _ _ _ _ _ c.resume_durable.ensures.no_call (subst (λ (r : Result (Unit {0}) Fault). IfErr r IsAside) (sym c.resume_durable.ensures.plain) tt)

pub returns-then-self-clause-none : goal.returns-then-self-clause-none
returns-then-self-clause-none g c none = absurd (none c.in-Some.waiting.now c.in-Some.ensures.some.0 c.in-Some.ensures.some.1)

pub returns-in-Durable-clause-none : goal.returns-in-Durable-clause-none
returns-in-Durable-clause-none g c none = absurd (none c.in-Some.waiting.now c.in-Some.ensures.some.0 c.in-Some.ensures.some.1)

pub returns-in-Lock-clause-none : goal.returns-in-Lock-clause-none
returns-in-Lock-clause-none g c none = absurd (none c.in-Some.waiting.now c.in-Some.ensures.some.0 c.in-Some.ensures.some.1)
