use Rattle.std.proofs.Common.{◌≡◌, [], ◌∷◌, None, true≢false, refl, sym, ap, ◌∙◌}
use Rattle.shore_model.specs.declared.step.Step.TheVariants as made
use Rattle.shore_shared.proofs.Hearing.{has_gone_once, has_gone_twice}
use Rattle.shore_shared.proofs.calls.back_step.Goals as goal

-- it went on
pub returns-then-not-waits_for_lock-clause-heard : goal.returns-then-not-waits_for_lock-clause-heard
returns-then-not-waits_for_lock-clause-heard g c = has_gone_once c.args.session.now.ear _ _ c.session_step-step.result _ c.session_step-step.ensures.heard refl refl

-- .. it waits on
pub returns-then-is_nothing-clause-heard : goal.returns-then-is_nothing-clause-heard
returns-then-is_nothing-clause-heard g c =
    has_gone_once c.args.session.now.ear c.session_step-step.new.session.ear _ c.session_step-step.result _ c.session_step-step.ensures.heard (c.give_up-back.ensures.unheard (c.is_nothing.ensures.0 c.if-is_nothing.true)) refl

-- .. or its wait was taken back
pub returns-clause-heard : goal.returns-clause-heard
returns-clause-heard g c =
    let some : ¬ (c.give_up-back.result ≡ made.Nothing) = λ nothing. true≢false (sym (c.is_nothing.ensures.1 nothing) ∙ c.if-is_nothing.false) in
    has_gone_twice c.args.session.now.ear c.session_step-step.new.session.ear _ _ c.session_step-step.result c.give_up-back.result _ c.session_step-step.ensures.heard (c.waits_for_lock.ensures.0 c.if-not-waits_for_lock.false) (c.give_up-back.ensures.heard some) refl refl
