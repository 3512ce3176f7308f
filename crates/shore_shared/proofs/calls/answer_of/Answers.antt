use Rattle.std.proofs.Common.{◌≡◌, inl, inr, Err, refl, sym, ap, subst, ◌∙◌}
use Rattle.shore_model.specs.declared.step.Step.{Step}
use Rattle.shore_model.specs.declared.step.Step.TheVariants as made
use Rattle.shore_shared.specs.Heard.{IsAnswered}
use Rattle.shore_shared.proofs.Hearing.{waits_for_nothing}
use Rattle.shore_shared.proofs.calls.answer_of.Goals as goal

pub returns-in-Refused-clause-answered : goal.returns-in-Refused-clause-answered
returns-in-Refused-clause-answered c =
    subst (λ (s : Step). IsAnswered s (Err c.in-Refused.fault)) (sym c.in-Refused.is) (refl, λ n e. c.requires.log (n, inr (c.in-Refused.is ∙ ap made.Refused e)))

pub returns-in-Waits-clause-answered : goal.returns-in-Waits-clause-answered
returns-in-Waits-clause-answered c = absurd (waits_for_nothing c.args.step _ c.in-Waits.is c.requires.log c.requires.lock)
