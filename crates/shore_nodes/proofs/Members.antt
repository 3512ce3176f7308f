-- Members of lists, and what filters keep.
use Rattle.std.proofs.Common.{◌≡◌, ◌++◌, ◌⊎◌, inl, inr, ⊎_elim, zero, suc, List, [], ◌∷◌, Bool, true, false, refl, ap, sym, subst, ◌∙◌, arith}
use Rattle.std.specs.Prelude.{filter, All, Contains}
use Rattle.std.proofs.lemmas.List.Elements.{All-cons, All-nil, All-head, All-tail}

-- an element is in a list
abbrev pub In : {A : Type 0} → A → List A → Type 0
In x [] = ⊥
In x (y ∷ ys) = (y ≡ x) ⊎ In x ys

pub either : (b : Bool) → (b ≡ true) ⊎ (b ≡ false)
either true = inl refl
either false = inr refl

pub In-All : {A : Type 0} (P : A → Type 0) (xs : List A) (x : A) → All P xs → In x xs → P x
In-All P [] x all h = absurd h
In-All P (y ∷ ys) x all h = ⊎_elim (λ e. subst P e (All-head P y ys all)) (λ t. In-All P ys x (All-tail P y ys all) t) h

pub All-In : {A : Type 0} (P : A → Type 0) (xs : List A) → ((x : A) → In x xs → P x) → All P xs
All-In P [] each = All-nil P
All-In P (y ∷ ys) each = All-cons P y ys (each y (inl refl)) (All-In P ys (λ x h. each x (inr h)))

pub In-Contains : {A : Type 0} (xs : List A) (x : A) → In x xs → Contains xs x
In-Contains [] x h = absurd h
In-Contains (y ∷ ys) x h = ⊎_elim (λ e. (0, omega arith, e)) (λ t. let c = In-Contains ys x t in (suc c.0, omega arith, c.2)) h

pub Contains-In : {A : Type 0} (xs : List A) (x : A) → Contains xs x → In x xs
Contains-In [] x h = absurd (omega (arith, h.1))
Contains-In (y ∷ ys) x (zero, within, is) = inl is
Contains-In (y ∷ ys) x (suc k, within, is) = inr (Contains-In ys x (k, omega arith, is))

pub In-append : {A : Type 0} (xs ys : List A) (x : A) → In x (xs ++ ys) → In x xs ⊎ In x ys
In-append [] ys x h = inr h
In-append (z ∷ zs) ys x h = ⊎_elim (λ e. inl (inl e)) (λ t. ⊎_elim (λ a. inl (inr a)) (λ b. inr b) (In-append zs ys x t)) h

pub In-left : {A : Type 0} (xs ys : List A) (x : A) → In x xs → In x (xs ++ ys)
In-left [] ys x h = absurd h
In-left (z ∷ zs) ys x h = ⊎_elim (λ e. inl e) (λ t. inr (In-left zs ys x t)) h

pub In-right : {A : Type 0} (xs ys : List A) (x : A) → In x ys → In x (xs ++ ys)
In-right [] ys x h = h
In-right (z ∷ zs) ys x h = inr (In-right zs ys x h)

pub filter-yes : {A : Type 0} (p : A → Bool) (x : A) (xs : List A) → p x ≡ true → filter p (x ∷ xs) ≡ x ∷ filter p xs
filter-yes p x xs e = rw e refl

pub filter-no : {A : Type 0} (p : A → Bool) (x : A) (xs : List A) → p x ≡ false → filter p (x ∷ xs) ≡ filter p xs
filter-no p x xs e = rw e refl

pub In-filter : {A : Type 0} (p : A → Bool) (xs : List A) (x : A) → In x (filter p xs) → In x xs × (p x ≡ true)
In-filter p [] x h = absurd h
In-filter p (y ∷ ys) x h =
    ⊎_elim
    (λ yes. ⊎_elim (λ e. (inl e, sym (ap p e) ∙ yes)) (λ t. let r = In-filter p ys x t in (inr r.0, r.1)) (subst (In x) (filter-yes p y ys yes) h))
    (λ no. let r = In-filter p ys x (subst (In x) (filter-no p y ys no) h) in (inr r.0, r.1))
    (either (p y))

pub filter-In : {A : Type 0} (p : A → Bool) (xs : List A) (x : A) → In x xs → p x ≡ true → In x (filter p xs)
filter-In p [] x h passes = h
filter-In p (y ∷ ys) x h passes =
    ⊎_elim
    (λ e. subst (In x) (sym (filter-yes p y ys (ap p e ∙ passes))) (inl e))
    (λ t. ⊎_elim (λ yes. subst (In x) (sym (filter-yes p y ys yes)) (inr (filter-In p ys x t passes)))
    (λ no. subst (In x) (sym (filter-no p y ys no)) (filter-In p ys x t passes)) (either (p y)))
    h

pub filter-all : {A : Type 0} (p : A → Bool) (xs : List A) → ((x : A) → In x xs → p x ≡ true) → filter p xs ≡ xs
filter-all p [] each = refl
filter-all p (y ∷ ys) each = filter-yes p y ys (each y (inl refl)) ∙ ap (λ zs. y ∷ zs) (filter-all p ys (λ x h. each x (inr h)))

pub filter-none : {A : Type 0} (p : A → Bool) (xs : List A) → ((x : A) → In x xs → p x ≡ false) → filter p xs ≡ []
filter-none p [] each = refl
filter-none p (y ∷ ys) each = filter-no p y ys (each y (inl refl)) ∙ filter-none p ys (λ x h. each x (inr h))

-- two filters in either order
pub filter-swap : {A : Type 0} (p q : A → Bool) (xs : List A) → filter p (filter q xs) ≡ filter q (filter p xs)
filter-swap p q [] = refl
filter-swap p q (y ∷ ys) =
    ⊎_elim
    (λ py. ⊎_elim
    (λ qy. ap (filter p) (filter-yes q y ys qy) ∙ filter-yes p y (filter q ys) py ∙ ap (λ zs. y ∷ zs) (filter-swap p q ys)
    ∙ sym (ap (filter q) (filter-yes p y ys py) ∙ filter-yes q y (filter p ys) qy))
    (λ qn. ap (filter p) (filter-no q y ys qn) ∙ filter-swap p q ys ∙ sym (ap (filter q) (filter-yes p y ys py) ∙ filter-no q y (filter p ys) qn))
    (either (q y)))
    (λ pn. ⊎_elim
    (λ qy. ap (filter p) (filter-yes q y ys qy) ∙ filter-no p y (filter q ys) pn ∙ filter-swap p q ys ∙ sym (ap (filter q) (filter-no p y ys pn)))
    (λ qn. ap (filter p) (filter-no q y ys qn) ∙ filter-swap p q ys ∙ sym (ap (filter q) (filter-no p y ys pn)))
    (either (q y)))
    (either (p y))
