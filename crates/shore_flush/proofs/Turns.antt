-- What turns of a flush have in common.
use Rattle.std.proofs.Common.{◌≡◌, ◌==◌, ℕ, true, false, inl, inr, List, [], ◌∷◌, length, refl, sym, ◌∙◌, arith}
use Rattle.std.proofs.lemmas.Bool.{cases_eq, ne_eqb}

pub is_zero : (n : ℕ) → (n == 0) ≡ true → n ≡ 0
is_zero n is = elim (cases_eq n 0) [
  | inl same ↦ same
  | inr other ↦ let clash : false ≡ true = sym (ne_eqb n 0 other) ∙ is in absurd (cc)
]

pub no_pages : (l : List ℕ) → length l ≡ 0 → l ≡ []
no_pages [] is = refl
no_pages (k ∷ l) is = absurd (omega arith)
