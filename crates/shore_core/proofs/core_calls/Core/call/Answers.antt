use Rattle.std.proofs.Common.{inl, inr, Err, refl, sym, subst, ◌∙◌}
use Rattle.laws_calls.specs.StateChanges.{after_refusal}
use Rattle.laws_calls.specs.Settling.{SettledCall}
use Rattle.shore_core.proofs.Settling.{called_at_once}
use Rattle.shore_model.specs.declared.step.Step.{Step}
use Rattle.shore_core.specs.Cores.{geometry_of}
use Rattle.shore_core.proofs.Asking.{forced_behind}
use Rattle.shore_core.proofs.Coming.{comes_same, never_both, stays_beside}
use Rattle.shore_core.proofs.Taking.{fails_refused}
use Rattle.shore_core.proofs.Tables.{both_told, none_told, some_told}
use Rattle.shore_core.proofs.Serving.{serves_answered, serves_noted, serves_still}
use Rattle.shore_core.proofs.core_calls.Core.call.Goals as goal

pub returns-then-self-clause-step : goal.returns-then-self-clause-step
returns-then-self-clause-step g c front disk before s store is safe over = record {
  later = s;
  moves = called_at_once _ s s c.args.session c.args.call _ tt (inr (inl (is.beside.parts.failed_is ∙ c.if-self.true, refl, refl)));
  comes = comes_same c.args.self.now front disk before s store is over;
  fails = λ running failed. never_both c.args.self.now.failed c.if-self.true running;
}

pub returns-then-is_some-clause-step : goal.returns-then-is_some-clause-step
returns-then-is_some-clause-step g c front disk before s store is safe over =
    let its = some_told _ _ (sym c.if-is_some.ensures) (both_told _ _ c.waiting.result c.waiting.ensures.some c.waiting.ensures.waits) in
    record {
      later = s;
      moves = called_at_once _ s s c.args.session c.args.call _ tt
          (inr (inr (inl (is.beside.parts.failed_is ∙ c.if-self.false, λ never. never _ (its.1.1 s is.beside.parts.stands) its.1.0.1, refl, refl))));
      comes = comes_same c.args.self.now front disk before s store is over;
      fails = λ running failed. never_both s.failed failed (is.beside.parts.failed_is ∙ running);
    }

pub returns-in-Ok-clause-step : goal.returns-in-Ok-clause-step
returns-in-Ok-clause-step g c front disk before s store is safe over =
    let idle = none_told _ (sym c.if-is_some.ensures) c.waiting.ensures.does_not s is.beside.parts.stands in
    let r = c.in-Ok.ensures.replied c.if-self.false front disk before s store is safe over idle in
    record {
      later = r.later;
      moves = r.calls;
      comes = r.comes;
      fails = λ running failed. never_both r.later.failed failed (r.comes.is_in.beside.parts.failed_is ∙ c.dispatch.ensures.serves.failed ∙ running);
    }

pub returns-in-Err-clause-step : goal.returns-in-Err-clause-step
returns-in-Err-clause-step g c front disk before s store is safe over =
    let old = c.args.self.now in
    let idle = none_told _ (sym c.if-is_some.ensures) c.waiting.ensures.does_not s is.beside.parts.stands in
    let r = c.in-Err.ensures.replied c.if-self.false front disk before s store is safe over idle in
    record {
      later = after_refusal c.in-Err.fault r.later;
      moves = subst (λ (x : Step). SettledCall (geometry_of old) s c.args.session c.args.call x (after_refusal c.in-Err.fault r.later)) (sym c.refuse.ensures.refused) r.calls;
      comes = c.refuse.ensures.left front before r.later store r.comes;
      fails = λ running failed.
          let beside = stays_beside c.dispatch.new.self front before r.later store c.in-Err.fault r.comes in
          fails_refused c.dispatch.new.self c.refuse.new.self front before r.later store c.in-Err.fault c.refuse.ensures.heap (beside.parts.failed_is ∙ c.dispatch.ensures.serves.failed ∙ running) r.comes;
    }

pub returns-then-self-clause-serves : goal.returns-then-self-clause-serves
returns-then-self-clause-serves g c = serves_still _ _ _ _ _ refl refl refl refl tt

pub returns-then-is_some-clause-serves : goal.returns-then-is_some-clause-serves
returns-then-is_some-clause-serves g c = serves_still _ _ _ _ _ refl refl refl refl tt

pub returns-in-Ok-clause-serves : goal.returns-in-Ok-clause-serves
returns-in-Ok-clause-serves g c = serves_answered _ _ _ _ _ c.in-Ok.ensures.serves

pub returns-in-Err-clause-serves : goal.returns-in-Err-clause-serves
returns-in-Err-clause-serves g c =
    serves_noted _ _ _ _ c.dispatch.new.self _ _ _ c.refuse.ensures.refused c.refuse.ensures.heap c.refuse.ensures.durable c.refuse.ensures.tail
    (forced_behind c.args.self.now c.dispatch.new.self c.refuse.new.self c.args.call {A = Unit {0}} (Err c.in-Err.fault) c.refuse.ensures.heap c.refuse.ensures.durable) c.in-Err.ensures.serves.beside
