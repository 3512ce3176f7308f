use Rattle.std.proofs.Common.{◌≡◌, ◌⊎◌, ◌<◌, ◌∙◌, inl, inr, ap, sym, refl, subst, arith, Err, Ok}
use Rattle.shore_types.specs.declared.faults.Fault.TheVariants as fault
use Rattle.laws_calls.specs.States.{page_slots}
use Rattle.shore_model.specs.declared.step.Step.TheVariants.{Done, Nothing, Refused}
use Rattle.shore_model.specs.declared.calls.Answer.TheVariants.{Flushed}
use Rattle.shore_txn.specs.Transactions.{kept_in}
use Rattle.shore_disk.specs.Device.{LeavesOnly, size}
use Rattle.shore_heap.specs.Heaps as heaps
use Rattle.shore_heap.specs.Heaps.{WroteBack}
use Rattle.shore_core.specs.Cores.{durable_of, faults_of, has_failed, heap_of, txns_of}
use Rattle.shore_core.specs.Flushing.{FlushSteps}
use Rattle.shore_core.proofs.Flushed.{refused_wrote, steps_failed, steps_refused, steps_written}
use Rattle.shore_disk.specs.Cause.{HasCause}
use Rattle.shore_core.proofs.Serving.{cause_aside, cause_handed, no_damage_of_device, no_force_of_device, none_failed, serves_still}
use Rattle.shore_core.specs.Replies.{Serves, fault_at}
use Rattle.shore_model.specs.declared.step.Step.{Step}
use Rattle.shore_core.proofs.core_calls.Core.flush_step.Goals as goal

pub returns-then-self-clause-step : goal.returns-then-self-clause-step
returns-then-self-clause-step g c front disk before s store is safe over = steps_refused c.args.self.now front disk before s store is over c.if-self.true

pub returns-in-Ok-eq0-clause-step : goal.returns-in-Ok-eq0-clause-step
returns-in-Ok-eq0-clause-step g c front disk before s store is safe over =
    let old = c.args.self.now in
    let works = is.beside.parts.failed_is ∙ c.if-self.false in
    let flush = c.flush.ensures in
    steps_written old _ front disk before s store is over c.if-self.false Nothing (works, refl)
    (record { volume = record { geometry = flush.geometry; honest = flush.honest; size = flush.size }; durable = refl; failed = refl; tail = refl; control = refl })
    (c.in-Ok-eq0.ensures.kept (kept_in (txns_of old)) front disk (page_slots s) (is.pages works))

pub returns-in-Ok-clause-step : goal.returns-in-Ok-clause-step
returns-in-Ok-clause-step g c front disk before s store is safe over =
    let old = c.args.self.now in
    let works = is.beside.parts.failed_is ∙ c.if-self.false in
    let flush = c.flush.ensures in
    let some : 0 < c.in-Ok.count = omega (arith, c.in-Ok.count-test) in
    steps_written old _ front disk before s store is over c.if-self.false (Done (Flushed c.in-Ok.count)) (works, (c.in-Ok.count, some, refl), refl)
    (record { volume = record { geometry = flush.geometry; honest = flush.honest; size = flush.size }; durable = refl; failed = refl; tail = refl; control = refl })
    (c.in-Ok.ensures.kept (kept_in (txns_of old)) front disk (page_slots s) (is.pages works))

pub returns-in-Err-clause-step : goal.returns-in-Err-clause-step
returns-in-Err-clause-step g c front disk before s store is safe over =
    let old = c.args.self.now in
    let new = c.refuse_flush.new.self in
    let f = c.in-Err.fault in
    let works = is.beside.parts.failed_is ∙ c.if-self.false in
    let flush = c.flush.ensures in
    let refuse = c.refuse_flush.ensures in
    let device = c.in-Err.ensures.refused.0 in
    subst (λ step. FlushSteps step new front before s store) (sym refuse.refused)
    (steps_failed old new front disk before s store is over c.if-self.false f device refuse.tail refuse.control refuse.durable (refuse.fails.1 (inr device)))

pub returns-in-Err-clause-written : goal.returns-in-Err-clause-written
returns-in-Err-clause-written g c front disk holds =
    refused_wrote c.args.self.now c.refuse_flush.new.self front disk c.refuse_flush.result c.in-Err.fault c.refuse_flush.ensures.refused
    (subst (λ h. (c.in-Err.fault ≡ fault.Device) ⊎ WroteBack (heap_of c.args.self.now) h (durable_of c.args.self.now) front disk) (sym c.refuse_flush.ensures.heap) (c.in-Err.ensures.wrote front disk holds))

pub returns-then-self-clause-serves : goal.returns-then-self-clause-serves
returns-then-self-clause-serves g c = serves_still _ _ _ _ _ refl refl refl refl tt

pub returns-in-Ok-eq0-clause-serves : goal.returns-in-Ok-eq0-clause-serves
returns-in-Ok-eq0-clause-serves g c =
    let flush = c.flush.ensures in
    record {
      volume = record { geometry = flush.geometry; honest = flush.honest; size = flush.size };
      durable = refl;
      first = refl;
      any_moment = flush.any_moment;
      damaged = λ front disk holds. tt;
      forced = λ front disk holds. tt;
      cause = cause_aside (Ok tt) _ _ (none_failed _ _ _ c.in-Ok-eq0.ensures.cause) tt;
    }

pub returns-in-Ok-clause-serves : goal.returns-in-Ok-clause-serves
returns-in-Ok-clause-serves g c =
    let flush = c.flush.ensures in
    record {
      volume = record { geometry = flush.geometry; honest = flush.honest; size = flush.size };
      durable = refl;
      first = refl;
      any_moment = flush.any_moment;
      damaged = λ front disk holds. tt;
      forced = λ front disk holds. tt;
      cause = cause_aside (Ok tt) _ _ (none_failed _ _ _ c.in-Ok.ensures.cause) tt;
    }

pub returns-in-Err-clause-serves : goal.returns-in-Err-clause-serves
returns-in-Err-clause-serves g c =
    let old = c.args.self.now in
    let new = c.refuse_flush.new.self in
    let f = c.in-Err.fault in
    let flush = c.flush.ensures in
    let refuse = c.refuse_flush.ensures in
    subst (λ (x : Step). Serves (λ page. ⊥) old (fault_at x) old new) (sym refuse.refused) (record {
      volume = record { geometry = ap heaps.geometry_of refuse.heap ∙ flush.geometry; honest = ap heaps.honesty_of refuse.heap ∙ flush.honest; size = ap (λ h. size (heaps.history_of h)) refuse.heap ∙ flush.size };
      durable = refuse.durable;
      first = ap (λ t. (g.T.Tail.first t, g.T.Tail.told t)) refuse.tail;
      any_moment = λ front disk holds.
          subst (λ h. LeavesOnly (heaps.history_of (heap_of old)) (heaps.history_of h) (heaps.LeavesPages (heap_of old) (durable_of old) front disk)) (sym refuse.heap) (flush.any_moment front disk holds);
      damaged = λ front disk holds d offset is. absurd (no_damage_of_device d offset (sym c.in-Err.ensures.refused.0 ∙ is));
      forced = λ front disk holds n is. absurd (no_force_of_device n (sym c.in-Err.ensures.refused.0 ∙ is));
      cause = subst (HasCause (Err f) (faults_of old)) (sym (ap (λ h. heaps.faults_of h) refuse.heap)) (cause_handed (Err f) f _ _ refl c.in-Err.ensures.cause);
    })
