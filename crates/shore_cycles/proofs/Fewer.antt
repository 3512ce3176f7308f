-- How many of a list pass a test, as the test gets stricter.
use Rattle.std.proofs.Common.{◌≡◌, ◌<◌, ◌≤◌, ⊎_elim, List, [], ◌∷◌, Bool, true, false, ap, ◌∙◌, length, arith}
use Rattle.std.specs.Prelude.{filter}
use Rattle.shore_locks.proofs.Members.{In, either, filter-no, filter-yes}

module _ {A : Type 0} (p q : A → Bool) (stricter : (x : A) → q x ≡ true → p x ≡ true) where
  pub as_many : (xs : List A) → length (filter q xs) ≤ length (filter p xs)
  as_many [] = omega arith
  as_many (x ∷ xs) =
      let rest = as_many xs in
      ⊎_elim
      (λ yes. let a = ap length (filter-yes q x xs yes) in let b = ap length (filter-yes p x xs (stricter x yes)) in omega arith)
      (λ no. let a = ap length (filter-no q x xs no) in
      ⊎_elim (λ passes. let b = ap length (filter-yes p x xs passes) in omega arith) (λ fails. let b = ap length (filter-no p x xs fails) in omega arith) (either (p x)))
      (either (q x))

  -- one that passes only the weaker test makes them fewer
  pub fewer : (xs : List A) (y : A) → In y xs → p y ≡ true → q y ≡ false → length (filter q xs) < length (filter p xs)
  fewer [] y there passes fails = absurd there
  fewer (x ∷ xs) y there passes fails =
      ⊎_elim
      (λ same.
      let a = ap length (filter-no q x xs (ap q same ∙ fails)) in let b = ap length (filter-yes p x xs (ap p same ∙ passes)) in let rest = as_many xs in omega arith)
      (λ later.
      let rest = fewer xs y later passes fails in
      ⊎_elim
      (λ yes. let a = ap length (filter-yes q x xs yes) in let b = ap length (filter-yes p x xs (stricter x yes)) in omega arith)
      (λ no. let a = ap length (filter-no q x xs no) in
      ⊎_elim (λ also. let b = ap length (filter-yes p x xs also) in omega arith) (λ neither. let b = ap length (filter-no p x xs neither) in omega arith) (either (p x)))
      (either (q x)))
      there
