-- Paths through nodes, for any functions to the next and the previous node.
use Rattle.std.proofs.Common.{◌≡◌, ◌++◌, ◌⊎◌, inl, inr, ⊎_elim, ℕ, List, [], ◌∷◌, refl, sym, subst, ◌∙◌}
use Rattle.shore_rings.specs.Rings.{In, Distinct, Way}

pub In-right : (xs ys : List ℕ) (x : ℕ) → In x ys → In x (xs ++ ys)
In-right [] ys x h = h
In-right (z ∷ zs) ys x h = inr (In-right zs ys x h)

pub In-left : (xs ys : List ℕ) (x : ℕ) → In x xs → In x (xs ++ ys)
In-left [] ys x h = absurd h
In-left (z ∷ zs) ys x h = ⊎_elim (λ e. inl e) (λ t. inr (In-left zs ys x t)) h

pub In-either : (xs ys : List ℕ) (x : ℕ) → In x (xs ++ ys) → In x xs ⊎ In x ys
In-either [] ys x h = inr h
In-either (z ∷ zs) ys x h = ⊎_elim (λ e. inl (inl e)) (λ t. ⊎_elim (λ a. inl (inr a)) (λ b. inr b) (In-either zs ys x t)) h

-- the end is reached from the start or from a node on the way
pub before_end : (f g : ℕ → ℕ) (a : ℕ) (xs : List ℕ) (b : ℕ) → Way f g a xs b → In (g b) (a ∷ xs)
before_end f g a [] b w = inl (sym w.1)
before_end f g a (x ∷ xs) b w = inr (before_end f g x xs b w.1)

-- and from the start one comes to a node on the way or to the end
pub after_start : (f g : ℕ → ℕ) (a : ℕ) (xs : List ℕ) (b : ℕ) → Way f g a xs b → In (f a) (xs ++ b ∷ [])
after_start f g a [] b w = inl (sym w.0)
after_start f g a (x ∷ xs) b w = inl (sym w.0.0)

pub way_split : (f g : ℕ → ℕ) (a : ℕ) (xs : List ℕ) (k : ℕ) (ys : List ℕ) (b : ℕ) → Way f g a (xs ++ k ∷ ys) b → Way f g a xs k × Way f g k ys b
way_split f g a [] k ys b w = (w.0, w.1)
way_split f g a (x ∷ xs) k ys b w = let r = way_split f g x xs k ys b w.1 in ((w.0, r.0), r.1)

-- a way stays if the links that it takes stay
pub way_same : (f g f' g' : ℕ → ℕ) (a : ℕ) (xs : List ℕ) (b : ℕ) → ((i : ℕ) → In i (a ∷ xs) → f' i ≡ f i) → ((i : ℕ) → In i (xs ++ b ∷ []) → g' i ≡ g i) → Way f g a xs b → Way f' g' a xs b
way_same f g f' g' a [] b fs gs w = (fs a (inl refl) ∙ w.0, gs b (inl refl) ∙ w.1)
way_same f g f' g' a (x ∷ xs) b fs gs w =
    ((fs a (inl refl) ∙ w.0.0, gs x (inl refl) ∙ w.0.1), way_same f g f' g' x xs b (λ i h. fs i (inr h)) (λ i h. gs i (inr h)) w.1)

-- the new links of a node that goes between the end and the node before it
pub record Between (f g f' g' : ℕ → ℕ) (l k b : ℕ) : Type 0 where
  pub to_place : f' l ≡ k
  pub from_place : f' k ≡ b
  pub back_to_last : g' k ≡ l
  pub back_to_place : g' b ≡ k
  pub others_after : (i : ℕ) → (i ≡ l → ⊥) → (i ≡ k → ⊥) → f' i ≡ f i
  pub others_before : (i : ℕ) → (i ≡ k → ⊥) → (i ≡ b → ⊥) → g' i ≡ g i

pub way_linked : (f g f' g' : ℕ → ℕ) (a : ℕ) (xs : List ℕ) (k b : ℕ) → Way f g a xs b → Between f g f' g' (g b) k b → Distinct (a ∷ xs) → (In k (a ∷ xs) → ⊥) → (In b xs → ⊥) → Way f' g' a (xs ++ k ∷ []) b
way_linked f g f' g' a [] k b w new apart fresh end =
    ((subst (λ l. f' l ≡ k) w.1 new.to_place, new.back_to_last ∙ w.1), (new.from_place, new.back_to_place))
way_linked f g f' g' a (x ∷ xs) k b w new apart fresh end =
    let last = before_end f g x xs b w.1 in (
      (
        new.others_after a (λ e. apart.0 (subst (λ y. In y (x ∷ xs)) (sym e) last)) (λ e. fresh (inl e)) ∙ w.0.0,
        new.others_before x (λ e. fresh (inr (inl e))) (λ e. end (inl e)) ∙ w.0.1,
      ),
      way_linked f g f' g' x xs k b w.1 new apart.1 (λ h. fresh (inr h)) (λ h. end (inr h)),
    )

-- the new links if a node is taken out
pub record Without (f g f' g' : ℕ → ℕ) (k : ℕ) : Type 0 where
  pub over : f' (g k) ≡ f k
  pub back : g' (f k) ≡ g k
  pub others_after : (i : ℕ) → (i ≡ g k → ⊥) → (i ≡ k → ⊥) → f' i ≡ f i
  pub others_before : (i : ℕ) → (i ≡ f k → ⊥) → (i ≡ k → ⊥) → g' i ≡ g i

pub way_unlinked : (f g f' g' : ℕ → ℕ) (a : ℕ) (xs : List ℕ) (k : ℕ) (ys : List ℕ) (b : ℕ) → Way f g a (xs ++ k ∷ ys) b → Without f g f' g' k
    → Distinct (a ∷ (xs ++ k ∷ ys)) → (In b (xs ++ k ∷ ys) → ⊥) → Way f' g' a (xs ++ ys) b
way_unlinked f g f' g' a [] k [] b w new apart end =
    (subst (λ p. f' p ≡ b) w.0.1 (new.over ∙ w.1.0), subst (λ n. g' n ≡ a) w.1.0 (new.back ∙ w.0.1))
way_unlinked f g f' g' a [] k (y ∷ ys) b w new apart end = (
  (subst (λ p. f' p ≡ y) w.0.1 (new.over ∙ w.1.0.0), subst (λ n. g' n ≡ a) w.1.0.0 (new.back ∙ w.0.1)),
  way_same f g f' g' y ys b
      (λ i h. new.others_after i (λ e. apart.0 (inr (subst (λ z. In z (y ∷ ys)) (e ∙ w.0.1) h))) (λ e. apart.1.0 (subst (λ z. In z (y ∷ ys)) e h)))
      (λ i h. new.others_before i
      (λ e. ⊎_elim (λ t. apart.1.1.0 (subst (λ z. In z ys) (e ∙ w.1.0.0) t)) (λ t. ⊎_elim (λ same. end (inr (inl (sym (w.1.0.0) ∙ sym e ∙ sym same)))) (λ none. absurd none) t) (In-either ys (b ∷ []) i h))
      (λ e. ⊎_elim (λ t. apart.1.0 (inr (subst (λ z. In z ys) e t))) (λ t. ⊎_elim (λ same. end (inl (sym e ∙ sym same))) (λ none. absurd none) t) (In-either ys (b ∷ []) i h)))
      w.1.1,
)
way_unlinked f g f' g' a (x ∷ xs) k ys b w new apart end =
    let parts = way_split f g x xs k ys b w.1 in
    let p = before_end f g x xs k parts.0 in
    let n = after_start f g k ys b parts.1 in (
      (
        new.others_after a (λ e. apart.0 (In-left (x ∷ xs) (k ∷ ys) a (subst (λ z. In z (x ∷ xs)) (sym e) p))) (λ e. apart.0 (In-right (x ∷ xs) (k ∷ ys) a (inl (sym e)))) ∙ w.0.0,
        new.others_before x
            (λ e. ⊎_elim (λ t. apart.1.0 (In-right xs (k ∷ ys) x (inr (subst (λ z. In z ys) (sym e) t)))) (λ t. ⊎_elim (λ same. end (inl (e ∙ sym same))) (λ none. absurd none) t) (In-either ys (b ∷ []) (f k) n))
            (λ e. apart.1.0 (In-right xs (k ∷ ys) x (inl (sym e)))) ∙ w.0.1,
      ),
      way_unlinked f g f' g' x xs k ys b w.1 new apart.1 (λ h. end (inr h)),
    )
