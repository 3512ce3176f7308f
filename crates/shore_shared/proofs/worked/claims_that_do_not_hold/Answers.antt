use Rattle.std.proofs.Common.{◌≡◌, Bool, List, [], ◌∷◌, ◌++◌, arith, length, length-append, ap, subst, sym, ◌∙◌}
use Rattle.std.proofs.Math.Logic.{∥∥₁_elim}
use Rattle.shore_model.specs.declared.calls.Exchange.{Exchange}
use Rattle.shore_words.specs.declared.rule.Heard.{Heard}
use Rattle.shore_shared.specs.Told.{AreTold, HasHeardSince}
use Rattle.shore_shared.proofs.worked.claims_that_do_not_hold.Goals as goal

-- who was told nothing heard nothing
told_none : (failed : Bool) (heard : List Heard) (h : Heard) (es : List Exchange) → es ≡ [] → HasHeardSince failed heard (heard ++ h ∷ []) es → ⊥
told_none failed heard h es none (more, parts, told) =
    let silent : more ≡ [] = subst (λ l. AreTold failed l more) none told in
    absurd (omega (arith, sym (length-append heard (h ∷ [])) ∙ ap length (parts ∙ ap (λ l. heard ++ l) silent) ∙ length-append heard []))

pub returns-clause-number : goal.returns-clause-number
returns-clause-number g _ heard is = ∥∥₁_elim is.2 (λ x y. absurd x) (λ t. absurd (omega (arith, t.2)))

pub returns-clause-told : goal.returns-clause-told
returns-clause-told g _ heard c a seen is = ∥∥₁_elim is.2 (λ x y. absurd x) (λ t. told_none seen.failed heard _ t.0 t.2 t.1)

pub returns-clause-another : goal.returns-clause-another
returns-clause-another g _ b c x y is = ∥∥₁_elim is.1.0.2 (λ x y. absurd x) (λ t. absurd (omega (arith, t.2)))
