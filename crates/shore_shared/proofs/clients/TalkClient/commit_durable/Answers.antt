use Rattle.std.proofs.Common.{◌∙◌, Result, Some, ap, refl, subst, sym}
use Rattle.std.proofs.Math.Logic.{∥∥₁_map}
use Rattle.shore_model.specs.declared.calls.Call.TheVariants as call
use Rattle.std.specs.declared.snapshot.Snapshot.{Snapshot}
use Rattle.shore_types.specs.declared.faults.Fault.{Fault}
use Rattle.shore_model.specs.declared.calls.Answer.{Answer}
use Rattle.shore_model.specs.declared.calls.Call.{Call}
use Rattle.shore_shared.specs.Told.{HasHeardSince, exchanges_in}
use Rattle.shore_shared.proofs.Hearing.{hears_on}
use Rattle.shore_shared.proofs.Telling.{exchanges_after, heard_more}
use Rattle.shore_shared.proofs.clients.TalkClient.commit_durable.Goals as goal

pub invariant_of-self-clause-heard : goal.invariant_of-self-clause-heard
invariant_of-self-clause-heard g c =
    let first = g.E.Begins.first.heard in
    let was = c.args.self.now in
    let now = c.await_of.new.session.ear.heard in
    let more = c.call_of-reply.ensures.heard in
    let x : Snapshot Call × Result Answer Fault = (c.of-asked.result, c.call_of-reply.result) in
    let grown : HasHeardSince was.session.seat.failed first was.session.ear.heard (exchanges_in was.told.items) → HasHeardSince c.await_of.new.session.seat.failed first now (exchanges_in c.and-self.result.items) =
    λ h. subst (λ xs. HasHeardSince c.await_of.new.session.seat.failed first now (exchanges_in xs)) (sym c.and-self.ensures)
    (heard_more was.session.seat.failed c.await_of.new.session.seat.failed (λ p. c.await_of.ensures.seen.1 (c.call_of-reply.ensures.seen.1 p)) first was.session.ear.heard now was.told.items x call.Commit c.call_of-reply.result more.0 c.of-asked.ensures refl (ap (λ v. v.heard) (c.await_of.ensures.heard ∙ more.1))
    (hears_on c.call_of-reply.new.session.seat.failed c.await_of.new.session.seat.failed c.await_of.ensures.seen.1 call.Commit (Some call.Commit) more.0 c.call_of-reply.result more.2) h) in
    ∥∥₁_map was.heard grown

pub returns-clause-told : goal.returns-clause-told
returns-clause-told g c = (
  c.call_of-reply.result,
  ap exchanges_in c.and-self.ensures ∙ exchanges_after c.args.self.now.told.items (c.of-asked.result, c.call_of-reply.result) call.Commit c.call_of-reply.result c.of-asked.ensures refl,
  c.await_of.ensures.of,
)
