use Rattle.std.proofs.Common.{ℕ, List, [], ◌∷◌, arith, subst, ◌∙◌}
use Rattle.shore_model.specs.declared.calls.Exchange.{Exchange}
use Rattle.shore_words.specs.declared.rule.Heard.{Heard}
use Rattle.shore_words.specs.declared.rule.Noted.{Noted}
use Rattle.shore_shared.specs.Told.{AllHold, AreInTrail, Seen}
use Rattle.shore_shared.specs.WorkedLife.{by, unfailed}
use Rattle.shore_shared.proofs.worked.claims_of_no_serve.Goals as goal

called : {J D : Type 0} (says : J → ℕ → D → List Exchange → Seen → Type 0) (h : Heard) → AllHold says (by 1 h ∷ []) (unfailed 0) 1 [] [] → ⊥
called says h (([], last, many, fresh, same, trail), others) = absurd (omega (arith, many))
called says h ((s ∷ ss, last, many, fresh, same, trail), others) =
    let is = subst (λ l. AreInTrail (by 1 h ∷ []) (unfailed 0) 1 l) same trail in absurd (cc (is.1 ∙ fresh.1))

fewer : {J D : Type 0} (says : J → ℕ → D → List Exchange → Seen → Type 0) (noted : List Noted) (so : Seen) (job : J) → AllHold says noted so 1 (job ∷ []) ([] ∷ []) → ⊥
fewer says noted so job (([], last, many, fresh, claimed, trail), others) = absurd (omega (arith, many))
fewer says noted so job ((s ∷ ss, last, many, fresh, claimed, trail), others) = claimed.1

pub returns-clause-called : goal.returns-clause-called
returns-clause-called g _ h holds = called g.J.Job.says h holds

pub returns-clause-fewer : goal.returns-clause-fewer
returns-clause-fewer g _ noted so job holds = fewer g.J.Job.says noted so job holds
