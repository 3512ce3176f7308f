use Rattle.std.proofs.Common.{◌≡◌, ◌≢◌, ◌++◌, ◌∷◌, [], None, refl, sym, ap, subst, ◌∙◌}
use Rattle.std.specs.Prelude.{All}
use Rattle.shore_model.specs.declared.calls.Call.TheVariants as call
use Rattle.laws_lives.specs.Sessions.{EachOnce, txns_of}
use Rattle.laws_calls.specs.Prepares.{prepared}
use Rattle.laws_calls.specs.States.{next_number}
use Rattle.shore_model.specs.declared.step.Wait.TheVariants.{Durable}
use Rattle.shore_sessions.specs.Controls.{locks_in, txns_in, waits_in}
use Rattle.shore_sessions.specs.Standing.{AreResolving, HasWaits}
use Rattle.shore_sessions.specs.declared.waits.WaitingCall.{WaitingCall}
use Rattle.shore_sessions.proofs.ControlSteps.{resolving_kept}
use Rattle.shore_sessions.proofs.PrepareSteps.{other_prepares, rolled_prepared, txns_prepared, waits_prepared}
use Rattle.shore_sessions.proofs.WaitSteps.{resolved_still}
use Rattle.shore_sessions.proofs.control.Control.prepare.Goals as goal

pub returns-clause-waits : goal.returns-clause-waits
returns-clause-waits c =
    let calls = waits_in c.args.self.now in
    c.push.ensures.calls
    ∙ ap (λ n. calls ++ record { session = c.args.seat.now.session; txn = n; call = call.Prepare c.args.asked; wait = Durable c.args.number; cycle = None } ∷ []) (c.id-txn.ensures.number ∙ c.txn.ensures.number)
    ∙ ap (λ g. calls ++ record { session = c.args.seat.now.session; txn = c.args.seat.now.txn; call = call.Prepare g; wait = Durable c.args.number; cycle = None } ∷ []) c.requires.copy

pub returns-clause-stands : goal.returns-clause-stands
returns-clause-stands c s a granules was its at number costs =
    let done = c.note_prepare.ensures in
    let old = txns_in c.args.self.now in
    let new = c.note_prepare.new.self in
    let calls = waits_in c.args.self.now in
    let pushed : _ ≡ calls ++ record { session = a.session; txn = a.txn; call = call.Prepare c.args.global; wait = Durable (next_number s); cycle = None } ∷ [] =
    returns-clause-waits c
    ∙ ap (λ n. calls ++ record { session = n; txn = c.args.seat.now.txn; call = call.Prepare c.args.global; wait = Durable c.args.number; cycle = None } ∷ []) (sym its.1)
    ∙ ap (λ n. calls ++ record { session = a.session; txn = n; call = call.Prepare c.args.global; wait = Durable c.args.number; cycle = None } ∷ []) (sym at)
    ∙ ap (λ n. calls ++ record { session = a.session; txn = a.txn; call = call.Prepare c.args.global; wait = Durable n; cycle = None } ∷ []) number in
    record {
      txns = txns_prepared old new s was.txns a its.0 c.args.global granules c.args.number done.noted at number done.undos done.doubts done.next c.args.cost costs done.kept done.stream;
      waits = subst (λ cs. HasWaits cs (prepared s a c.args.global granules)) (sym pushed)
          (waits_prepared calls s was.waits a its.0 c.args.global granules (subst (λ ts. EachOnce (txns_of ts)) (sym was.txns.active) c.args.self.now.txns.numbers)
          (subst (λ n. All (λ (w : WaitingCall). w.session ≢ n) calls) (sym its.1) c.requires.free)
          (other_prepares old new s was.txns a its.0 c.args.global granules c.args.number done.noted at number));
      resolving = subst (λ cs. AreResolving new cs (prepared s a c.args.global granules)) (sym pushed) (resolving_kept old new calls (calls ++ record { session = a.session; txn = a.txn; call = call.Prepare c.args.global; wait = Durable (next_number s); cycle = None } ∷ []) s (prepared s a c.args.global granules) (rolled_prepared old new s was.txns a its.0 c.args.global granules c.args.number done.noted at number)
          (resolved_still calls (record { session = a.session; txn = a.txn; call = call.Prepare c.args.global; wait = Durable (next_number s); cycle = None }) refl) refl (λ f. f) was.resolving);
      locks = was.locks;
    }

pub invariant_of-self-clause-marked : goal.invariant_of-self-clause-marked
invariant_of-self-clause-marked c = c.push.ensures.marks (locks_in c.args.self.now).requests c.args.self.now.marked (λ lock gone. absurd cc)
