-- Frames whose pages were written, one after another.
use Rattle.std.proofs.Common.{◌≡◌, ◌≢◌, ◌⊎◌, ℕ, zero, suc, Bool, List, [], ◌∷◌, ◌++◌, Contains, Option, Some, None, option_map, if◌then◌else◌, refl, sym, ap, ◌∙◌, inl, inr, arith}
use Rattle.std.proofs.lemmas.Bool.{cases_eq, eq-eqb, ne_eqb}
use Rattle.shore_pool.specs.declared.frame.Frame.{Frame}
use Rattle.shore_pool.specs.Changes.{settled, settled_at}

-- settled twice is settled once
twice : (o : Option Frame) → option_map settled (option_map settled o) ≡ option_map settled o
twice None = refl
twice (Some f) = refl

module _ (at : ℕ → Option Frame) where
  here : (n k : ℕ) (ns : List ℕ) → n ≡ k → settled_at (n ∷ ns) at k ≡ option_map settled (at k)
  here n k ns is = ap (λ (b : Bool). if b then option_map settled (at k) else settled_at ns at k) (eq-eqb n k is)

  behind : (n k : ℕ) (ns : List ℕ) → (n ≡ k → ⊥) → settled_at (n ∷ ns) at k ≡ settled_at ns at k
  behind n k ns other = ap (λ (b : Bool). if b then option_map settled (at k) else settled_at ns at k) (ne_eqb n k other)

  again : (ns : List ℕ) (k : ℕ) → option_map settled (settled_at ns at k) ≡ option_map settled (at k)
  again [] k = refl
  again (n ∷ ns) k = elim (cases_eq n k) [
    | inl is ↦ ap (option_map settled) (here n k ns is) ∙ twice (at k)
    | inr other ↦ ap (option_map settled) (behind n k ns other) ∙ again ns k
  ]

  last : (ns : List ℕ) (k : ℕ) → settled_at (ns ++ k ∷ []) at k ≡ option_map settled (at k)
  last [] k = here k k [] refl
  last (n ∷ ns) k = elim (cases_eq n k) [
    | inl is ↦ here n k (ns ++ k ∷ []) is
    | inr other ↦ behind n k (ns ++ k ∷ []) other ∙ last ns k
  ]

  not_last : (ns : List ℕ) (m k : ℕ) → (m ≡ k → ⊥) → settled_at (ns ++ m ∷ []) at k ≡ settled_at ns at k
  not_last [] m k apart = behind m k [] apart
  not_last (n ∷ ns) m k apart = elim (cases_eq n k) [
    | inl is ↦ here n k (ns ++ m ∷ []) is ∙ sym (here n k ns is)
    | inr other ↦ behind n k (ns ++ m ∷ []) other ∙ not_last ns m k apart ∙ sym (behind n k ns other)
  ]

  -- one page more
  pub settled_more : (ns : List ℕ) (n : ℕ) (now new : ℕ → Option Frame) → ((k : ℕ) → now k ≡ settled_at ns at k) → new n ≡ option_map settled (now n) → ((k : ℕ) → k ≢ n → new k ≡ now k)
      → (k : ℕ) → new k ≡ settled_at (ns ++ n ∷ []) at k
  settled_more ns n now new so_far is others k = elim (cases_eq n k) [
    | inl same ↦ ap new (sym same) ∙ is ∙ ap (option_map settled) (so_far n) ∙ again ns n ∙ sym (last ns n) ∙ ap (settled_at (ns ++ n ∷ []) at) same
    | inr other ↦ others k (λ same. other (sym same)) ∙ so_far k ∙ sym (not_last ns n k other)
  ]

  -- what was written, and what was not
  pub settled_here : (ns : List ℕ) (k : ℕ) → Contains ns k → settled_at ns at k ≡ option_map settled (at k)
  settled_here [] k has = absurd (omega (arith, has.1))
  settled_here (n ∷ ns) k (zero, inside, is) = here n k ns is
  settled_here (n ∷ ns) k (suc i, inside, is) = elim (cases_eq n k) [
    | inl same ↦ here n k ns same
    | inr other ↦ behind n k ns other ∙ settled_here ns k (i, omega (arith, inside), is)
  ]

  pub not_settled : (ns : List ℕ) (k : ℕ) → (Contains ns k → ⊥) → settled_at ns at k ≡ at k
  not_settled [] k none = refl
  not_settled (n ∷ ns) k none = elim (cases_eq n k) [
    | inl same ↦ absurd (none (0, omega arith, same))
    | inr other ↦ behind n k ns other ∙ not_settled ns k (λ has. none (suc has.0, omega (arith, has.1), has.2))
  ]

  pub settled_either : (ns : List ℕ) (k : ℕ) → (settled_at ns at k ≡ at k) ⊎ (settled_at ns at k ≡ option_map settled (at k))
  settled_either [] k = inl refl
  settled_either (n ∷ ns) k = elim (cases_eq n k) [
    | inl same ↦ inr (here n k ns same)
    | inr other ↦ elim (settled_either ns k) [
      | inl is ↦ inl (behind n k ns other ∙ is)
      | inr is ↦ inr (behind n k ns other ∙ is)
    ]
  ]
