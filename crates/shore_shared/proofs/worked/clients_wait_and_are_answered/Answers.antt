use Rattle.std.proofs.Common.{ℕ, Bool, false, List, [], ◌∷◌, Some, Ok, arith, refl, inl, inr}
use Rattle.shore_types.specs.declared.locking.Granule.{Granule}
use Rattle.shore_model.specs.declared.calls.Answer.{Answer}
use Rattle.shore_model.specs.declared.calls.Answer.TheVariants as answer
use Rattle.shore_model.specs.declared.calls.Call.{Call}
use Rattle.shore_model.specs.declared.calls.Call.TheVariants as call
use Rattle.shore_model.specs.declared.step.Step.TheVariants as made
use Rattle.shore_words.specs.declared.rule.Heard.{Heard}
use Rattle.shore_shared.specs.Heard.{Hears}
use Rattle.shore_shared.specs.Told.{AreTold, Shown}
use Rattle.shore_shared.specs.WorkedLife.{asks, has_heard, is_told, unfailed, waits_and_is_repeated}
use Rattle.shore_shared.proofs.worked.clients_wait_and_are_answered.Goals as goal

hears : (failed : Bool) (c : Call) (g : Granule) (n : ℕ) (a : Answer) → Hears failed c (Some c) (waits_and_is_repeated c g n a) (Ok a)
hears failed c g n a = (refl, inr (inr (inr (g, refl), (refl, inr (inr (inl (n, inr refl), (refl, inl (refl, refl))))))))

at_once : (c : Call) (a : Answer) → AreTold false (is_told c a ∷ []) (asks c (made.Done a) ∷ [])
at_once c a = (asks c (made.Done a) ∷ [], [], refl, (refl, inl (refl, refl)), refl)

pub returns-clause-call : goal.returns-clause-call
returns-clause-call c = hears

pub returns-clause-life : goal.returns-clause-life
returns-clause-life _ txn ticket c g n a =
    let begins : Heard = asks call.Begin (made.Done (answer.Began txn)) in
    let commits : Heard = asks call.Commit (made.Done (answer.Committed ticket)) in
    let waits : List Heard = waits_and_is_repeated c g n a in
    let between : List Shown = has_heard 1 (begins ∷ []) (unfailed 0) ∷ has_heard 2 waits (unfailed 0) ∷ [] in
    let last : List Shown = has_heard 1 (begins ∷ commits ∷ []) (unfailed ticket) ∷ has_heard 2 waits (unfailed 0) ∷ [] in (
      (
        has_heard 1 [] (unfailed 0) ∷ has_heard 2 [] (unfailed 0) ∷ [],
        last,
        refl,
        (refl, refl, (refl, refl, tt)),
        (
          between,
          (
            (refl, (omega arith, λ p. p), ∣ (is_told call.Begin (answer.Began txn) ∷ [], (begins ∷ [], refl, at_once call.Begin (answer.Began txn)), refl) ∣₁),
            ((refl, (omega arith, λ p. p), ∣ (is_told c a ∷ [], (waits, refl, (waits, [], refl, hears false c g n a, refl)), refl) ∣₁), tt),
          ),
          (
            last,
            (
              (refl, (omega arith, λ p. p), ∣ (is_told call.Commit (answer.Committed ticket) ∷ [], (commits ∷ [], refl, at_once call.Commit (answer.Committed ticket)), refl) ∣₁),
              ((refl, (omega arith, λ p. p), ∣ ([], ([], refl, refl), refl) ∣₁), tt),
            ),
            refl,
          ),
        ),
        (refl, refl, (omega arith, λ p. p), (refl, refl, (omega arith, λ p. p), tt)),
      ),
      (omega arith, omega arith, (omega arith, omega arith, (omega arith, omega arith, (omega arith, omega arith, (omega arith, omega arith, tt))))),
    )
