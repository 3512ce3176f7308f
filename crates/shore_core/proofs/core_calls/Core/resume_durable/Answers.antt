use Rattle.std.proofs.Common.{◌<◌, ◌≤◌, ◌+◌, length, inl, inr, refl, sym, ap, subst, ◌∙◌, arith}
use Rattle.laws_lives.specs.Sessions.{ResolvedTxn}
use Rattle.laws_lives.specs.Views.{IsAmong}
use Rattle.laws_calls.specs.CallSteps.{IsPreparing, ResumesWait, prepare_ended}
use Rattle.laws_calls.specs.Resolves.{resolve_ended}
use Rattle.laws_calls.specs.States.{State}
use Rattle.shore_model.specs.declared.step.Step.TheVariants.{Done, Waits}
use Rattle.shore_model.specs.declared.step.Wait.{Wait}
use Rattle.shore_model.specs.declared.step.Wait.TheVariants.{Durable}
use Rattle.shore_model.specs.declared.calls.Answer.TheVariants.{Prepared, Resolved}
use Rattle.shore_sessions.specs.Calls.{as_waiting, is_durable, resolved_as}
use Rattle.shore_sessions.specs.Standing.{HasControl}
use Rattle.shore_sessions.proofs.EndedWaits.{has_ended}
use Rattle.shore_sessions.proofs.WaitSteps.{call_waits}
use Rattle.shore_txn.specs.Transactions as table
use Rattle.shore_txn.specs.Transactions.{kept_in, room_in}
use Rattle.shore_txn.specs.Txns.{last_of}
use Rattle.shore_txn.specs.declared.txn.Txn.{Txn}
use Rattle.shore_types.specs.declared.layout.TheConstants.{LAST_OPENED}
use Rattle.shore_txn.specs.declared.transactions.Transactions.{Transactions}
use Rattle.shore_core.specs.Cores.{control_of, first_of, geometry_of, txns_of, waiting_of, waits_of}
use Rattle.shore_core.specs.Resumes.{IsAwaited}
use Rattle.shore_core.proofs.Acquiring.{lasts_below}
use Rattle.shore_core.proofs.Coming.{comes_same}
use Rattle.shore_core.proofs.Going.{decision_spared}
use Rattle.shore_core.proofs.Settling.{resumed_at_once, resumed_to_nothing}
use Rattle.shore_core.proofs.Moving.{comes_moved}
use Rattle.shore_core.proofs.core_calls.Core.resume_durable.Goals as goal

pub returns-then-awaits_force-clause-step : goal.returns-then-awaits_force-clause-step
returns-then-awaits_force-clause-step g c running front disk before s store is safe over v n same waits kind =
    let old = c.args.self.now in
    let works = is.beside.parts.failed_is ∙ running in
    let number = c.args.number in
    let w = as_waiting v in
    let m = call_waits (waits_of old) s is.beside.parts.stands.waits v n in
    record {
      later = s;
      moves = resumed_to_nothing (geometry_of old) s s c.args.session (Waits (Durable number))
          (inr (
            w,
            m,
            same,
            inr (
              works,
              subst (λ (x : Wait). ResumesWait (geometry_of old) s w x (Waits (Durable number)) s) (sym waits)
                  (inl (omega (arith, c.if-awaits_force.ensures.awaits refl, is.beside.parts.durable_is), refl, refl)),
              decision_spared _ s w number safe.after.waits m waits,
            ),
          )) refl;
      comes = comes_same old front disk before s store is over;
    }

pub invariant_of-self : goal.invariant_of-self
invariant_of-self g c =
    let old = c.args.self.now in
    let next = first_of old + length (waiting_of old) in
    record {
      some_number = old.some_number;
      forced = old.forced;
      numbers = subst (λ n. next + n.reserved ≤ LAST_OPENED) (sym c.end_prepare.ensures.room) old.numbers;
      earlier = lasts_below (table.txns_in (txns_of old)) _ next c.end_prepare.ensures.lasts old.earlier;
    }

pub invariant_of-self-in-Resolve : goal.invariant_of-self-in-Resolve
invariant_of-self-in-Resolve g c =
    let old = c.args.self.now in
    let txns = sym c.end_resolve.ensures.txns in
    let next = first_of old + length (waiting_of old) in
    record {
      some_number = old.some_number;
      forced = old.forced;
      numbers = subst (λ x. next + (room_in x).reserved ≤ LAST_OPENED) txns old.numbers;
      earlier = subst (λ x. (t : Txn) → IsAmong t (table.txns_in x) → last_of t < next) txns old.earlier;
    }

pub returns-in-Prepare-clause-step : goal.returns-in-Prepare-clause-step
returns-in-Prepare-clause-step g c running front disk before s store is safe over v n same waits kind =
    let old = c.args.self.now in
    let works = is.beside.parts.failed_is ∙ running in
    let number = c.args.number in
    let stands = is.beside.parts.stands in
    let w = as_waiting v in
    let m = call_waits (waits_of old) s stands.waits v n in
    let asked = subst (IsAwaited v.call) c.in-Prepare.is kind (sym (stands.waits.kinds v n) ∙ ap is_durable waits) in
    let preparing = stands.waits.preparing v asked.0 n asked.1 in
    let later : State = prepare_ended s v.session v.txn asked.0 in
    let has = subst (λ k. HasControl c.end_prepare.new.self (prepare_ended s k v.txn asked.0)) (sym same)
    (c.end_prepare.ensures.stands s v.txn asked.0 safe.after.sessions.seats stands works (subst (λ k. IsPreparing s.sessions k v.txn asked.0) same preparing)) in
    let told : number ≤ s.durable = omega (arith, c.if-awaits_force.ensures.durable refl, is.beside.parts.durable_is) in
    record {
      later = later;
      moves = resumed_at_once (geometry_of old) s later c.args.session (Done Prepared) tt
          (inr (
            w,
            m,
            same,
            inr (
              works,
              subst (λ (x : Wait). ResumesWait (geometry_of old) s w x (Done Prepared) later) (sym waits)
                  (inr (inl (told, refl, (v.txn, asked.0, preparing, asked.1, refl)))),
              decision_spared _ s w number safe.after.waits m waits,
            ),
          ));
      comes = comes_moved old _ front disk before s later store refl refl refl refl refl c.end_prepare.ensures.claims has refl refl refl (λ p. refl) is over;
    }

pub returns-in-Resolve-clause-step : goal.returns-in-Resolve-clause-step
returns-in-Resolve-clause-step g c running front disk before s store is safe over v n same waits kind =
    let old = c.args.self.now in
    let works = is.beside.parts.failed_is ∙ running in
    let number = c.args.number in
    let stands = is.beside.parts.stands in
    let w = as_waiting v in
    let m = call_waits (waits_of old) s stands.waits v n in
    let asked = subst (IsAwaited v.call) c.in-Resolve.is kind in
    let r : ResolvedTxn = record { txn = v.txn; global = asked.0; outcome = asked.1 } in
    let its = ap (resolved_as v.txn) asked.2 in
    let ended = has_ended (control_of old) s stands works v r n its in
    let later : State = resolve_ended s v.session r in
    let has = subst (λ k. HasControl c.end_resolve.new.self (resolve_ended s k r)) (sym same) (c.end_resolve.ensures.stands s v r stands works n same its) in
    let told : number ≤ s.durable = omega (arith, c.if-awaits_force.ensures.durable refl, is.beside.parts.durable_is) in
    record {
      later = later;
      moves = resumed_at_once (geometry_of old) s later c.args.session (Done Resolved) tt
          (inr (
            w,
            m,
            same,
            inr (
              works,
              subst (λ (x : Wait). ResumesWait (geometry_of old) s w x (Done Resolved) later) (sym waits)
                  (inr (inr (told, refl, (r, ended, asked.2, refl)))),
              decision_spared _ s w number safe.after.waits m waits,
            ),
          ));
      comes = comes_moved old _ front disk before s later store refl refl refl refl refl (λ p. ap (λ (t : Transactions). kept_in t p) c.end_resolve.ensures.txns) has refl refl refl (λ p. refl) is over;
    }
