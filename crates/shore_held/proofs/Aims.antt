-- Where a failed move of the anchor was to lead stays where the core's checkpoint has come.
use Rattle.std.proofs.Common.{◌≡◌, ◌≤◌, ℕ, zero, suc, sym, ap, subst, arith}
use Rattle.std.proofs.Math.Logic.{∥∥₁_map}
use Rattle.shore_check.specs.declared.stage.Stage.{Stage}
use Rattle.shore_words.specs.declared.rule.Known.{Known}
use Rattle.shore_held.specs.Comings.{HasAim, IsAimOf}

-- the core is at the same stage, and knows no less to be durable
pub aim_stays : (stage : Stage) (durable later : ℕ) (aim : ℕ × ℕ) → durable ≤ later → ∥ IsAimOf stage durable aim ∥₁ → ∥ IsAimOf stage later aim ∥₁
aim_stays stage durable later aim more aims = ∥∥₁_map aims (λ a. record { named = a.named; at = a.at; is = a.is; logged = let low = a.logged in omega (arith, low, more) })

-- .. and its seat keeps the same
pub aims_kept : (stage : Stage) (durable later : ℕ) (old new : Known) → new ≡ old → durable ≤ later → (HasAim old.aim → ∥ IsAimOf stage durable old.aim ∥₁) → HasAim new.aim → ∥ IsAimOf stage later new.aim ∥₁
aims_kept stage durable later old new same more aims torn =
    subst (λ (k : Known). ∥ IsAimOf stage later k.aim ∥₁) (sym same) (aim_stays stage durable later old.aim more (aims (subst (λ (k : Known). HasAim k.aim) same torn)))

-- there is none where none has failed
pub never_aims : {A : Type 0} (aim : ℕ × ℕ) → aim ≡ (0, 0) → HasAim aim → A
never_aims aim none torn = absurd (omega (arith, torn, ap (λ (x : ℕ × ℕ). x.1) none))

-- whether one has failed is known
pub aimed : {A : Type 0} (aim : ℕ × ℕ) → (HasAim aim → ∥ A ∥₁) → ∥ (HasAim aim → A) ∥₁
aimed (checkpoint, zero) there = ∣ (λ torn. absurd (omega (arith, torn))) ∣₁
aimed (checkpoint, suc number) there = ∥∥₁_map (there (omega arith)) (λ a torn. a)
