use Rattle.std.proofs.Common.{◌⊎◌, inl, inr, sym, subst, ◌∙◌, refl}
use Rattle.shore_types.specs.Layout.{HasPage}
use Rattle.laws_calls.specs.Rollbacks.{Interrupts}
use Rattle.shore_core.specs.Cores.{geometry_of}
use Rattle.shore_core.proofs.Taking.{map_err, true_false}
use Rattle.shore_core.proofs.Serving.{serves_still}
use Rattle.shore_core.proofs.core_calls.Core.reach.Goals as goal

pub returns-then-not-has_page-clause-refused : goal.returns-then-not-has_page-clause-refused
returns-then-not-has_page-clause-refused g c running front disk before s store is safe over = inr (λ has. true_false (sym (c.has_page.ensures.1 (subst (λ it. HasPage it c.args.id.page) (sym c.geometry.ensures) has)) ∙ c.if-not-has_page.true))

pub returns-clause-refused : goal.returns-clause-refused
returns-clause-refused g c running front disk before s store is safe over =
    map_err (Interrupts s) (λ f. Interrupts s f ⊎ (HasPage (geometry_of c.args.self.now) c.args.id.page → ⊥)) c.fetch.result (λ f h. inl h) (c.fetch.ensures.refused running front disk before s store is safe over)

pub returns-then-not-has_page-clause-serves : goal.returns-then-not-has_page-clause-serves
returns-then-not-has_page-clause-serves g c = serves_still _ _ _ _ _ refl refl refl refl tt

pub returns-clause-serves : goal.returns-clause-serves
returns-clause-serves g c =
    let serves = c.fetch.ensures.serves in
    record {
      volume = serves.volume;
      durable = serves.durable;
      first = serves.first;
      any_moment = serves.any_moment;
      damaged = serves.damaged;
      forced = c.fetch.ensures.forced_now;
      cause = serves.cause;
    }
