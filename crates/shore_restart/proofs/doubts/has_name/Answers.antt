use Rattle.std.proofs.Common.{◌≡◌, ℕ, List, Option, None, Some, ap, sym, ◌∙◌}
use Rattle.std.specs.Prelude.{option_map}
use Rattle.shore_types.specs.declared.locking.Granule.{Granule}
use Rattle.shore_restart.specs.Doubts.{name_at}
use Rattle.shore_analysis.specs.Padded.{padded}
use Rattle.shore_restart.proofs.DoubtsNamed.{kept_said}
use Rattle.shore_restart.proofs.doubts.has_name.Goals as goal

one_name : (m n : List ℕ) → Some m ≡ Some n → m ≡ n
one_name m n is = cc

abbrev name_of : Option (List ℕ × List Granule) → Option (List ℕ)
name_of o = option_map (λ (said : List ℕ × List Granule). said.0) o

pub returns-in-Some : goal.returns-in-Some
returns-in-Some c =
    let named : Some c.in-Some.name.now ≡ name_at (padded c.args.cut c.args.kept.now) c.args.number = ap name_of (c.in-Some.ensures ∙ kept_said c.args.cut c.args.kept.now c.args.number) in
    (λ same. sym named ∙ ap Some (c.is_same.ensures.0 same), λ it. c.is_same.ensures.1 (one_name c.in-Some.name.now c.args.global.now (named ∙ it)))

pub returns-in-None : goal.returns-in-None
returns-in-None c =
    let none : name_at (padded c.args.cut c.args.kept.now) c.args.number ≡ None = sym (ap name_of (c.in-None.ensures ∙ kept_said c.args.cut c.args.kept.now c.args.number)) in
    (λ same. cc, λ it. let clash : ◌≡◌ {A = Option (List ℕ)} None (Some c.args.global.now) = sym none ∙ it in cc)
