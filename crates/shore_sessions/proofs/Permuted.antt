-- Lists in another order: what a test passes of them, and their members.
use Rattle.std.proofs.Common.{◌≡◌, ◌<◌, ◌++◌, ◌∷◌, [], inl, inr, ⊎_elim, ℕ, zero, suc, List, Bool, true, false, cond, Option, None, Some, refl, sym, ap, subst, ◌∙◌, arith, length, get_or, set}
use Rattle.std.specs.Prelude.{filter}
use Rattle.std.specs.List.{cons_option, filter_map, swap}
use Rattle.std.specs.List.Sorted.{IsPermutation}
use Rattle.std.proofs.lemmas.List.Edits.{swap_is}
use Rattle.std.proofs.lemmas.List.Sorted.{Contains-permutation, IsPermutation-cons, IsPermutation-keeps, IsPermutation-middle, IsPermutation-refl, IsPermutation-sym, IsPermutation-trans}
use Rattle.laws_lives.specs.Views.{IsAmong}
use Rattle.laws_lives.proofs.DoubtLocks.{contained_among}
use Rattle.laws_lives.proofs.Lists.{among_contained}

module _ {X : Type 0} where
  pub permuted_among : (xs ys : List X) → IsPermutation xs ys → (x : X) → IsAmong x xs → IsAmong x ys
  permuted_among xs ys same x m = contained_among ys x (Contains-permutation xs ys x same (among_contained x xs m))

  pub among_permuted : (xs ys : List X) → IsPermutation xs ys → (x : X) → IsAmong x ys → IsAmong x xs
  among_permuted xs ys same x m = permuted_among ys xs (IsPermutation-sym xs ys same) x m

-- ---- a test

module _ {X : Type 0} (p : X → Bool) where
  abbrev and_kept : X → List X → List X
  and_kept x l = cond (p x) (x ∷ l) l

  kept_both : (x y : X) (l : List X) → IsPermutation (and_kept x (and_kept y l)) (and_kept y (and_kept x l))
  kept_both x y l = elim (p x) as (λ b. IsPermutation (cond b (x ∷ and_kept y l) (and_kept y l)) (and_kept y (cond b (x ∷ l) l))) [
    | true ↦ elim (p y) as (λ b. IsPermutation (x ∷ cond b (y ∷ l) l) (cond b (y ∷ x ∷ l) (x ∷ l))) [
      | true ↦ IsPermutation-middle (x ∷ []) y l
      | false ↦ IsPermutation-refl (x ∷ l)
    ]
    | false ↦ IsPermutation-refl (and_kept y l)
  ]

  kept_on : (x : X) (l m : List X) → IsPermutation l m → IsPermutation (and_kept x l) (and_kept x m)
  kept_on x l m same = elim (p x) as (λ b. IsPermutation (cond b (x ∷ l) l) (cond b (x ∷ m) m)) [
    | true ↦ IsPermutation-cons x l m same
    | false ↦ same
  ]

  -- an element is put in the place of another
  placed : (l : List X) (i : ℕ) (y d : X) → i < length l → IsPermutation (and_kept y (filter p l)) (and_kept (get_or l i d) (filter p (set l i y)))
  placed [] i y d less = absurd (omega (arith, less))
  placed (x ∷ xs) zero y d less = kept_both y x (filter p xs)
  placed (x ∷ xs) (suc i) y d less =
      IsPermutation-trans (and_kept y (and_kept x (filter p xs))) (and_kept x (and_kept y (filter p xs))) (and_kept (get_or xs i d) (and_kept x (filter p (set xs i y))))
      (kept_both y x (filter p xs))
      (IsPermutation-trans (and_kept x (and_kept y (filter p xs))) (and_kept x (and_kept (get_or xs i d) (filter p (set xs i y)))) (and_kept (get_or xs i d) (and_kept x (filter p (set xs i y))))
      (kept_on x (and_kept y (filter p xs)) (and_kept (get_or xs i d) (filter p (set xs i y))) (placed xs i y d (omega (arith, less))))
      (kept_both x (get_or xs i d) (filter p (set xs i y))))

  exchanged : (l : List X) (i j : ℕ) (d : X) → i < length l → j < length l → IsPermutation (filter p l) (filter p (set (set l i (get_or l j d)) j (get_or l i d)))
  exchanged [] i j d low high = absurd (omega (arith, low))
  exchanged (x ∷ xs) zero zero d low high = IsPermutation-refl (filter p (x ∷ xs))
  exchanged (x ∷ xs) zero (suc j) d low high = placed xs j x d (omega (arith, high))
  exchanged (x ∷ xs) (suc i) zero d low high = placed xs i x d (omega (arith, low))
  exchanged (x ∷ xs) (suc i) (suc j) d low high =
      kept_on x (filter p xs) (filter p (set (set xs i (get_or xs j d)) j (get_or xs i d))) (exchanged xs i j d (omega (arith, low)) (omega (arith, high)))

  swapped : (l : List X) (i j : ℕ) → i < length l → j < length l → IsPermutation (filter p l) (filter p (swap l i j))
  swapped [] i j low high = absurd (omega (arith, low))
  swapped (x ∷ xs) i j low high = subst (λ m. IsPermutation (filter p (x ∷ xs)) (filter p m)) (swap_is (x ∷ xs) i j x low high) (exchanged (x ∷ xs) i j x low high)

  -- what it passes is in another order
  pub filtered : (xs ys : List X) → IsPermutation xs ys → IsPermutation (filter p xs) (filter p ys)
  filtered xs = IsPermutation-keeps xs (λ l. IsPermutation (filter p xs) (filter p l)) (IsPermutation-refl (filter p xs))
      (λ l i j low high so_far. IsPermutation-trans (filter p xs) (filter p l) (filter p (swap l i j)) so_far (swapped l i j low high))

-- ---- what some of a list make

module _ {A B : Type 0} (f : A → Option B) where
  pub made_with : (xs ys : List A) (x y : A) → f x ≡ f y → filter_map f (xs ++ x ∷ ys) ≡ filter_map f (xs ++ y ∷ ys)
  made_with [] ys x y same = ap (λ o. cons_option o (filter_map f ys)) same
  made_with (z ∷ xs) ys x y same = ap (cons_option (f z)) (made_with xs ys x y same)

  -- one that makes nothing
  pub made_without : (xs ys : List A) (x : A) → f x ≡ None → filter_map f (xs ++ x ∷ ys) ≡ filter_map f (xs ++ ys)
  made_without [] ys x none = ap (λ o. cons_option o (filter_map f ys)) none
  made_without (z ∷ xs) ys x none = ap (cons_option (f z)) (made_without xs ys x none)

  pub made_among : (x : A) (y : B) (xs : List A) → IsAmong x xs → f x ≡ Some y → IsAmong y (filter_map f xs)
  made_among x y [] m is = absurd m
  made_among x y (z ∷ xs) (inl same) is = subst (λ o. IsAmong y (cons_option o (filter_map f xs))) (sym (ap f same ∙ is)) (inl refl)
  made_among x y (z ∷ xs) (inr m) is = elim (f z) as (λ o. IsAmong y (cons_option o (filter_map f xs))) [
    | None ↦ made_among x y xs m is
    | Some b ↦ inr (made_among x y xs m is)
  ]

  pub among_made : (y : B) (xs : List A) → IsAmong y (filter_map f xs) → (x : A) × IsAmong x xs × (f x ≡ Some y)
  among_made y [] m = absurd m
  among_made y (z ∷ xs) m =
      (elim (f z) as (λ o. f z ≡ o → IsAmong y (cons_option o (filter_map f xs)) → (x : A) × IsAmong x (z ∷ xs) × (f x ≡ Some y)) [
        | None ↦ λ is n. let rest = among_made y xs n in (rest.0, inr rest.1, rest.2)
        | Some b ↦ λ is n. ⊎_elim (λ same. (z, inl refl, is ∙ ap Some same)) (λ later. let rest = among_made y xs later in (rest.0, inr rest.1, rest.2)) n
      ]) refl m

  module _ (p : B → Bool) (q : A → Bool) (x : A) (xs : List A) (rest : filter p (filter_map f xs) ≡ filter_map f (filter q xs)) where
    nothing : f x ≡ None → filter_map f (filter q xs) ≡ filter_map f (cond (q x) (x ∷ filter q xs) (filter q xs))
    nothing is = elim (q x) as (λ b. filter_map f (filter q xs) ≡ filter_map f (cond b (x ∷ filter q xs) (filter q xs))) [
      | true ↦ sym (ap (λ o. cons_option o (filter_map f (filter q xs))) is)
      | false ↦ refl
    ]

    something : (y : B) → f x ≡ Some y → cond (q x) (y ∷ filter p (filter_map f xs)) (filter p (filter_map f xs)) ≡ filter_map f (cond (q x) (x ∷ filter q xs) (filter q xs))
    something y is = elim (q x) as (λ b. cond b (y ∷ filter p (filter_map f xs)) (filter p (filter_map f xs)) ≡ filter_map f (cond b (x ∷ filter q xs) (filter q xs))) [
      | true ↦ ap (λ l. y ∷ l) rest ∙ sym (ap (λ o. cons_option o (filter_map f (filter q xs))) is)
      | false ↦ rest
    ]

    one_passing : ((y : B) → f x ≡ Some y → p y ≡ q x) → filter p (filter_map f (x ∷ xs)) ≡ filter_map f (filter q (x ∷ xs))
    one_passing alike =
        (elim (f x) as (λ o. f x ≡ o → filter p (cons_option o (filter_map f xs)) ≡ filter_map f (cond (q x) (x ∷ filter q xs) (filter q xs))) [
          | None ↦ λ is. rest ∙ nothing is
          | Some y ↦ λ is. ap (λ b. cond b (y ∷ filter p (filter_map f xs)) (filter p (filter_map f xs))) (alike y is) ∙ something y is
        ]) refl

  -- a test of what is made, as one of what makes it
  pub made_passing : (p : B → Bool) (q : A → Bool) (xs : List A) → ((x : A) (y : B) → IsAmong x xs → f x ≡ Some y → p y ≡ q x) → filter p (filter_map f xs) ≡ filter_map f (filter q xs)
  made_passing p q [] alike = refl
  made_passing p q (x ∷ xs) alike = one_passing p q x xs (made_passing p q xs (λ z y m. alike z y (inr m))) (λ y is. alike x y (inl refl) is)
