use Rattle.std.proofs.Common.{◌∙◌, Result, ap, refl, subst, sym}
use Rattle.std.proofs.Math.Logic.{∥∥₁_map}
use Rattle.std.specs.declared.snapshot.Snapshot.{Snapshot}
use Rattle.shore_types.specs.declared.faults.Fault.{Fault}
use Rattle.shore_model.specs.declared.calls.Answer.{Answer}
use Rattle.shore_model.specs.declared.calls.Call.{Call}
use Rattle.shore_shared.specs.Told.{HasHeardSince, exchanges_in}
use Rattle.shore_shared.proofs.Telling.{exchanges_after, heard_more}
use Rattle.shore_shared.proofs.clients.TalkClient.call_within.Goals as goal

pub invariant_of-self-clause-heard : goal.invariant_of-self-clause-heard
invariant_of-self-clause-heard g c =
    let first = g.E.Begins.first.heard in
    let was = c.args.self.now in
    let now = c.call_of-reply.new.session.ear.heard in
    let more = c.call_of-reply.ensures.heard in
    let x : Snapshot Call × Result Answer Fault = (c.of-asked.result, c.call_of-reply.result) in
    let grown : HasHeardSince was.session.seat.failed first was.session.ear.heard (exchanges_in was.told.items) → HasHeardSince c.call_of-reply.new.session.seat.failed first now (exchanges_in c.and-self.result.items) =
    λ h. subst (λ xs. HasHeardSince c.call_of-reply.new.session.seat.failed first now (exchanges_in xs)) (sym c.and-self.ensures)
    (heard_more was.session.seat.failed c.call_of-reply.new.session.seat.failed c.call_of-reply.ensures.seen.1 first was.session.ear.heard now was.told.items x c.args.call c.call_of-reply.result more.0 c.of-asked.ensures refl (ap (λ v. v.heard) more.1) more.2 h) in
    ∥∥₁_map was.heard grown

pub returns-clause-told : goal.returns-clause-told
returns-clause-told g c =
    ap exchanges_in c.and-self.ensures ∙ exchanges_after c.args.self.now.told.items (c.of-asked.result, c.call_of-reply.result) c.args.call c.call_of-reply.result c.of-asked.ensures refl
