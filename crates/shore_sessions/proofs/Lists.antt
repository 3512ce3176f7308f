-- Lists that are turned round, and lists whose elements come once.
use Rattle.std.proofs.Common.{◌≡◌, ◌⊎◌, inl, inr, ⊎_elim, ◌++◌, ◌∷◌, [], List, Bool, true, false, cond, refl, sym, ap, subst, ◌∙◌, map, append-nil}
use Rattle.std.specs.Prelude.{filter, reverse}
use Rattle.std.specs.List.{AllByRecursion}
use Rattle.std.proofs.lemmas.List.{reverse-append}
use Rattle.std.proofs.lemmas.List.Elements.{filter-append}
use Rattle.laws_lives.specs.Views.{IsAmong}

module _ {A : Type 0} where
  pub reverse-cons : (x : A) (xs : List A) → reverse (x ∷ xs) ≡ reverse xs ++ x ∷ []
  reverse-cons x xs = reverse-append (x ∷ []) xs

  -- ---- members

  pub among_left : (x : A) (xs ys : List A) → IsAmong x xs → IsAmong x (xs ++ ys)
  among_left x [] ys m = absurd m
  among_left x (y ∷ xs) ys (inl same) = inl same
  among_left x (y ∷ xs) ys (inr later) = inr (among_left x xs ys later)

  pub among_right : (x : A) (xs ys : List A) → IsAmong x ys → IsAmong x (xs ++ ys)
  among_right x [] ys m = m
  among_right x (y ∷ xs) ys m = inr (among_right x xs ys m)

  pub among_either : (x : A) (xs ys : List A) → IsAmong x (xs ++ ys) → IsAmong x xs ⊎ IsAmong x ys
  among_either x [] ys m = inr m
  among_either x (y ∷ xs) ys (inl same) = inl (inl same)
  among_either x (y ∷ xs) ys (inr later) = ⊎_elim (λ l. inl (inr l)) (λ r. inr r) (among_either x xs ys later)

  pub among_turned : (x : A) (xs : List A) → IsAmong x xs → IsAmong x (reverse xs)
  among_turned x [] m = absurd m
  among_turned x (y ∷ xs) m = subst (IsAmong x) (sym (reverse-cons y xs))
      (⊎_elim (λ same. among_right x (reverse xs) (y ∷ []) (inl same)) (λ later. among_left x (reverse xs) (y ∷ []) (among_turned x xs later)) m)

  pub turned_among : (x : A) (xs : List A) → IsAmong x (reverse xs) → IsAmong x xs
  turned_among x [] m = m
  turned_among x (y ∷ xs) m =
      ⊎_elim (λ l. inr (turned_among x xs l)) (λ r. ⊎_elim (λ same. inl same) (λ none. absurd none) r)
      (among_either x (reverse xs) (y ∷ []) (subst (IsAmong x) (reverse-cons y xs) m))

  pub all_by_members : (P : A → Type 0) (xs : List A) → ((x : A) → IsAmong x xs → P x) → AllByRecursion P xs
  all_by_members P [] each = tt
  all_by_members P (x ∷ xs) each = (each x (inl refl), all_by_members P xs (λ y m. each y (inr m)))

  -- ---- filters

  pub filter-reverse : (p : A → Bool) (xs : List A) → filter p (reverse xs) ≡ reverse (filter p xs)
  filter-reverse p [] = refl
  filter-reverse p (x ∷ xs) = ap (filter p) (reverse-cons x xs) ∙ filter-append p (reverse xs) (x ∷ []) ∙ ap (λ zs. zs ++ filter p (x ∷ [])) (filter-reverse p xs) ∙ last
    where
      last : reverse (filter p xs) ++ filter p (x ∷ []) ≡ reverse (filter p (x ∷ xs))
      last = elim (p x) as (λ b. reverse (filter p xs) ++ cond b (x ∷ []) [] ≡ reverse (cond b (x ∷ filter p xs) (filter p xs))) [
        | true ↦ sym (reverse-cons x (filter p xs))
        | false ↦ append-nil (reverse (filter p xs))
      ]

  -- each passes
  pub filter_all : (p : A → Bool) (xs : List A) → ((x : A) → IsAmong x xs → p x ≡ true) → filter p xs ≡ xs
  filter_all p [] all = refl
  filter_all p (x ∷ xs) all =
      ap (λ b. cond b (x ∷ filter p xs) (filter p xs)) (all x (inl refl)) ∙ ap (λ zs. x ∷ zs) (filter_all p xs (λ y m. all y (inr m)))

  pub among_filtered : (p : A → Bool) (x : A) (xs : List A) → IsAmong x (filter p xs) → IsAmong x xs × (p x ≡ true)
  among_filtered p x [] = λ m. absurd m
  among_filtered p x (y ∷ xs) =
      elim (p y) as (λ b. p y ≡ b → IsAmong x (cond b (y ∷ filter p xs) (filter p xs)) → IsAmong x (y ∷ xs) × (p x ≡ true)) [
        | true ↦ λ is m. ⊎_elim (λ same. (inl same, ap p (sym same) ∙ is)) (λ later. let rest = among_filtered p x xs later in (inr rest.0, rest.1)) m
        | false ↦ λ is m. let rest = among_filtered p x xs m in (inr rest.0, rest.1)
      ] refl

  pub among_passing : (p : A → Bool) (x : A) (xs : List A) → IsAmong x xs → p x ≡ true → IsAmong x (filter p xs)
  among_passing p x [] m is = absurd m
  among_passing p x (y ∷ xs) (inl same) is =
      subst (λ b. IsAmong x (cond b (y ∷ filter p xs) (filter p xs))) (sym (ap p same ∙ is)) (inl same)
  among_passing p x (y ∷ xs) (inr later) is =
      elim (p y) as (λ b. IsAmong x (cond b (y ∷ filter p xs) (filter p xs))) [
        | true ↦ inr (among_passing p x xs later is)
        | false ↦ among_passing p x xs later is
      ]

-- ---- maps

module _ {A B : Type 0} (f : A → B) where
  pub filter-map : (p : B → Bool) (xs : List A) → filter p (map f xs) ≡ map f (filter (λ x. p (f x)) xs)
  filter-map p [] = refl
  filter-map p (x ∷ xs) =
      elim (p (f x)) as (λ b. cond b (f x ∷ filter p (map f xs)) (filter p (map f xs)) ≡ map f (cond b (x ∷ filter (λ y. p (f y)) xs) (filter (λ y. p (f y)) xs))) [
        | true ↦ ap (λ zs. f x ∷ zs) (filter-map p xs)
        | false ↦ filter-map p xs
      ]
