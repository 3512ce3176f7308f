use Rattle.std.proofs.Common.{◌+◌, ◌≤◌, ◌<◌, ◌∷◌, length, refl, sym, subst, arith}
use Rattle.shore_types.specs.declared.layout.TheConstants.{LAST_OPENED}
use Rattle.shore_model.specs.declared.calls.Call.TheVariants as call
use Rattle.shore_model.specs.declared.calls.Outcome.TheVariants as outcome
use Rattle.laws_lives.specs.Sessions.{ResolvedTxn}
use Rattle.laws_lives.specs.Views.{IsAmong}
use Rattle.shore_txn.specs.Transactions.{room_in}
use Rattle.shore_txn.specs.Transactions as table
use Rattle.shore_txn.specs.Txns.{last_of}
use Rattle.shore_txn.specs.declared.txn.Txn.{Txn}
use Rattle.shore_core.specs.Cores.{first_of, waiting_of}
use Rattle.laws_calls.specs.StateChanges.{decision_waiting}
use Rattle.shore_core.proofs.Decided.{awaited_comes, told_comes}
use Rattle.shore_core.proofs.core_calls.Core.answer_rollback.Goals as goal

pub returns-then-not-awaits_force-clause-answers : goal.returns-then-not-awaits_force-clause-answers
returns-then-not-awaits_force-clause-answers g c front disk before s store is over outside =
    let r : ResolvedTxn = record { txn = c.args.txn; global = c.args.global; outcome = outcome.Abort } in (
      let told = c.awaits_force.ensures.durable c.if-not-awaits_force.true in omega (arith, told, is.durable_is),
      refl,
      told_comes r front disk before s store c.args.self.now c.args.session is over,
    )

pub returns-clause-answers : goal.returns-clause-answers
returns-clause-answers g c front disk before s store is over outside =
    let r : ResolvedTxn = record { txn = c.args.txn; global = c.args.global; outcome = outcome.Abort } in (
      let awaits = c.awaits_force.ensures.awaits c.if-not-awaits_force.false in omega (arith, awaits, is.durable_is),
      refl,
      awaited_comes r front disk before s store c.args.self.now _ (record s { waiting = decision_waiting c.args.session (call.Resolve c.args.global outcome.Abort) c.args.decided ∷ s.waiting }) is over refl refl refl refl refl
          c.await_resolve.ensures.txns (c.await_resolve.ensures.stands s is.stands outside) refl refl refl (λ p. refl),
    )

pub invariant_of-self : goal.invariant_of-self
invariant_of-self g c =
    let old = c.args.self.now in
    let txns = sym c.await_resolve.ensures.txns in
    let next = first_of old + length (waiting_of old) in
    record {
      some_number = old.some_number;
      forced = old.forced;
      numbers = subst (λ x. next + (room_in x).reserved ≤ LAST_OPENED) txns old.numbers;
      earlier = subst (λ x. (t : Txn) → IsAmong t (table.txns_in x) → last_of t < next) txns old.earlier;
    }
