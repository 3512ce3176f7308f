use Rattle.std.proofs.Common.{◌≡◌, ◌<◌, ◌==◌, ◌^◌, ◌∙◌, ℕ, Bool, true, false, Option, None, Some, Err, Ok, Result, OkIff, IfSome, refl, ap, eqb-true, subst, sym, unwrap_or, if◌then◌else◌}
use Rattle.std.specs.Result.{result_ok}
use Rattle.toml.specs.Data.{Data}
use Rattle.toml.specs.View.{view}
use Rattle.shore_types.specs.declared.versions.Version.TheVariants.{One, Two}
use Rattle.shore_types.specs.Versions.{number_of, version_of}
use Rattle.shore_script.specs.Keys.{IsVersion, whole}
use Rattle.shore_script.proofs.settings.version_of.Goals as goal

-- a version that a number names has that number
named : (n : ℕ) (value : Data) → value ≡ whole n → IfSome (version_of n) (IsVersion (Some value))
unfolding version_of number_of
named n value is = by (n == 1) (n == 2) refl refl
  where
    by : (a b : Bool) → (n == 1) ≡ a → (n == 2) ≡ b → IfSome (if a then Some One else (if b then Some Two else None)) (IsVersion (Some value))
    by true b one two = is ∙ ap whole (eqb-true n 1 one)
    by false true one two = is ∙ ap whole (eqb-true n 2 two)
    by false false one two = tt

-- a number that fits is the one that was read
same : {E : Type 0} (limit n m : ℕ) (found : Result ℕ E) → OkIff found (n < limit) n → Some m ≡ result_ok found → n ≡ m
same limit n m (Ok k) fits is = sym fits.1 ∙ sym (ap (λ o. unwrap_or o k) is)
same limit n m (Err e) fits is = cc is

pub returns-in_ok-ok-in-Some : goal.returns-in_ok-ok-in-Some
returns-in_ok-ok-in-Some c =
    let n = c.in_ok-ok-in-Some.field-0 in
    let eq = same (2 ^ 16) _ n c.try_from.result c.try_from.ensures c.in_ok-ok-in-Some.ensures.value in
    let is = c.in_ok-number_in-in-Some.ensures ∙ ap whole eq in
    subst (λ d. IfSome c.of.result (IsVersion d)) c.in-Some.ensures
    (subst (λ o. IfSome o (IsVersion (Some (view c.in-Some.value.now)))) (sym c.of.ensures) (named n _ is))
