-- The line that is read first.
use Rattle.std.proofs.Common.{◌≡◌, ℕ, Bool, true, false, eqb, List, [], ◌∷◌, refl, sym, ap, subst, ◌∙◌, Option, None, Some, arith}
use Rattle.std.specs.Prelude.{IfSome, ◌==◌}
use Rattle.std.specs.List.{before_first}
use Rattle.std.specs.Io.BufRead.{strip_last, take_through}

pub for_some : {A : Type 0} (o : Option A) (P : A → Type 0) → ((x : A) → o ≡ Some x → P x) → IfSome o P
for_some None P h = tt
for_some (Some x) P h = h x refl

pub of_some : {A : Type 0} (o : Option A) (P : A → Type 0) (x : A) → o ≡ Some x → IfSome o P → P x
of_some o P x e h = subst (λ q. IfSome q P) e h

strip-end : (x : ℕ) → eqb x 10 ≡ true → strip_last 10 (x ∷ []) ≡ []
strip-end x h = grind (arith)

strip-one : (x : ℕ) → eqb x 10 ≡ false → strip_last 10 (x ∷ []) ≡ x ∷ []
strip-one x h = grind (arith)

strip-more : (x y : ℕ) (ys : List ℕ) → strip_last 10 (x ∷ y ∷ ys) ≡ x ∷ strip_last 10 (y ∷ ys)
strip-more x y ys = grind (arith)

before-end : (x : ℕ) (xs : List ℕ) → eqb x 10 ≡ true → before_first (λ b. b == 10) (x ∷ xs) ≡ []
before-end x xs h = grind (arith)

before-more : (x : ℕ) (xs : List ℕ) → eqb x 10 ≡ false → before_first (λ b. b == 10) (x ∷ xs) ≡ x ∷ before_first (λ b. b == 10) xs
before-more x xs h = grind (arith)

through-end : (x : ℕ) (xs : List ℕ) → eqb x 10 ≡ true → take_through 10 (x ∷ xs) ≡ x ∷ []
through-end x xs h = grind (arith)

through-more : (x : ℕ) (xs : List ℕ) → eqb x 10 ≡ false → take_through 10 (x ∷ xs) ≡ x ∷ take_through 10 xs
through-more x xs h = grind (arith)

strip-cons : (x : ℕ) (ys : List ℕ) → eqb x 10 ≡ false → strip_last 10 (x ∷ ys) ≡ x ∷ strip_last 10 ys
strip-cons x [] h = strip-one x h
strip-cons x (y ∷ ys) h = strip-more x y ys

-- the first line with its end, and then without
pub without_its_end : (xs : List ℕ) → strip_last 10 (take_through 10 xs) ≡ before_first (λ b. b == 10) xs
without_its_end [] = refl
without_its_end (x ∷ xs) = by_first x xs (eqb x 10) refl (without_its_end xs) where
  by_first : (x : ℕ) (xs : List ℕ) (is_end : Bool) → eqb x 10 ≡ is_end → strip_last 10 (take_through 10 xs) ≡ before_first (λ b. b == 10) xs
      → strip_last 10 (take_through 10 (x ∷ xs)) ≡ before_first (λ b. b == 10) (x ∷ xs)
  by_first x xs true h rest = ap (strip_last 10) (through-end x xs h) ∙ strip-end x h ∙ sym (before-end x xs h)
  by_first x xs false h rest =
      ap (strip_last 10) (through-more x xs h) ∙ strip-cons x (take_through 10 xs) h ∙ ap (λ (l : List ℕ). x ∷ l) rest ∙ sym (before-more x xs h)
