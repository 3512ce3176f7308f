-- Steps of loops over histories.
use Rattle.std.proofs.Common.{◌≡◌, ◌<◌, ◌+◌, ℕ, suc, List, [], ◌∷◌, ◌++◌, Option, Bool, length, get_or, drop, sym, ap, ◌∙◌, add-one, append_assoc}
use Rattle.std.proofs.lemmas.List.Elements.{filter_map-append, filter-append}
use Rattle.std.specs.Prelude.{filter}
use Rattle.std.specs.List.{filter_map}
use Rattle.std.proofs.Math.Seq.{drop-cons}

-- the element at a place, and those after it
pub at_place : {A : Type 0} (xs : List A) (i : ℕ) (x : A) → i < length xs → x ≡ get_or xs i x → drop i xs ≡ x ∷ drop (i + 1) xs
at_place xs i x h is = drop-cons xs i x h ∙ ap (λ y. y ∷ drop (suc i) xs) (sym is) ∙ ap (λ k. x ∷ drop k xs) (sym (add-one i))

-- a list that is made of a part for each element
module _ {X Y : Type 0} (F : List X → List Y) (parts : (x : X) (xs : List X) → F (x ∷ xs) ≡ F (x ∷ []) ++ F xs) where
  -- the part of one element more: what is made, with what is left, stays the whole
  pub one_part : (xs : List X) (i : ℕ) (x : X) → i < length xs → x ≡ get_or xs i x → (old new whole : List Y) → old ++ F (drop i xs) ≡ whole → new ≡ old ++ F (x ∷ []) → new ++ F (drop (i + 1) xs) ≡ whole
  one_part xs i x within is old new whole so_far more =
      ap (λ ys. ys ++ F (drop (i + 1) xs)) more ∙ append_assoc old (F (x ∷ [])) (F (drop (i + 1) xs))
      ∙ ap (λ ys. old ++ ys) (sym (parts x (drop (i + 1) xs)) ∙ ap F (sym (at_place xs i x within is))) ∙ so_far

pub found_parts : {X Y : Type 0} (f : X → Option Y) (x : X) (xs : List X) → filter_map f (x ∷ xs) ≡ filter_map f (x ∷ []) ++ filter_map f xs
found_parts f x xs = filter_map-append f (x ∷ []) xs

pub kept_parts : {X : Type 0} (p : X → Bool) (x : X) (xs : List X) → filter p (x ∷ xs) ≡ filter p (x ∷ []) ++ filter p xs
kept_parts p x xs = filter-append p (x ∷ []) xs
