-- Prefixes and rests of lists, and what holds of each element.
use Rattle.std.proofs.Common.{◌≡◌, ◌⊎◌, inl, inr, ⊎_elim, ◌++◌, ◌<◌, ◌≤◌, ◌+◌, ℕ, zero, suc, List, [], ◌∷◌, Some, refl, sym, ap, subst, length, drop, map, take, arith}
use Rattle.std.specs.Prelude.{Contains, slice_get}
use Rattle.shore_model.proofs.RecordPaths.{head_contained, rest_contained}
use Rattle.std.specs.List.{AllByRecursion}
use Rattle.laws_lives.specs.Views.{IsAmong}

-- ---- each element

pub recursion-push : {A : Type 0} (P : A → Type 0) (xs : List A) (x : A) → AllByRecursion P xs → P x → AllByRecursion P (xs ++ x ∷ [])
recursion-push P [] x h p = (p, tt)
recursion-push P (y ∷ ys) x h p = (h.0, recursion-push P ys x h.1 p)

pub recursion-unpush : {A : Type 0} (P : A → Type 0) (xs : List A) (x : A) → AllByRecursion P (xs ++ x ∷ []) → AllByRecursion P xs
recursion-unpush P [] x h = tt
recursion-unpush P (y ∷ ys) x h = (h.0, recursion-unpush P ys x h.1)

pub recursion-last : {A : Type 0} (P : A → Type 0) (xs : List A) (x : A) → AllByRecursion P (xs ++ x ∷ []) → P x
recursion-last P [] x h = h.0
recursion-last P (y ∷ ys) x h = recursion-last P ys x h.1

pub recursion-at : {A : Type 0} (P : A → Type 0) (xs : List A) (n : ℕ) (x : A) → AllByRecursion P xs → slice_get xs n ≡ Some x → P x
recursion-at P [] n x h e = cc
recursion-at P (y ∷ ys) zero x h e = let same : y ≡ x = cc in subst P same h.0
recursion-at P (y ∷ ys) (suc n) x h e = recursion-at P ys n x h.1 e

pub recursion-take : {A : Type 0} (P : A → Type 0) (n : ℕ) (xs : List A) → AllByRecursion P xs → AllByRecursion P (take n xs)
recursion-take P zero xs h = tt
recursion-take P (suc n) [] h = tt
recursion-take P (suc n) (x ∷ xs) h = (h.0, recursion-take P n xs h.1)

pub recursion-drop : {A : Type 0} (P : A → Type 0) (n : ℕ) (xs : List A) → AllByRecursion P xs → AllByRecursion P (drop n xs)
recursion-drop P zero xs h = h
recursion-drop P (suc n) [] h = tt
recursion-drop P (suc n) (x ∷ xs) h = recursion-drop P n xs h.1

pub recursion-weaker : {A : Type 0} (P Q : A → Type 0) → ((x : A) → P x → Q x) → (xs : List A) → AllByRecursion P xs → AllByRecursion Q xs
recursion-weaker P Q f [] h = tt
recursion-weaker P Q f (x ∷ xs) h = (f x h.0, recursion-weaker P Q f xs h.1)

pub recursion-each : {A : Type 0} (P : A → Type 0) → ((x : A) → P x) → (xs : List A) → AllByRecursion P xs
recursion-each P f [] = tt
recursion-each P f (x ∷ xs) = (f x, recursion-each P f xs)

-- ---- lengths and parts

pub length-push : {A : Type 0} (xs : List A) (x : A) → length (xs ++ x ∷ []) ≡ length xs + 1
length-push [] x = refl
length-push (y ∷ xs) x = let e = length-push xs x in omega arith

pub length-take_within : {A : Type 0} (n : ℕ) (xs : List A) → n ≤ length xs → length (take n xs) ≡ n
length-take_within zero xs within = refl
length-take_within (suc n) [] within = absurd (omega arith)
length-take_within (suc n) (x ∷ xs) within = ap suc (length-take_within n xs (omega arith))

pub drop-push : {A : Type 0} (n : ℕ) (xs : List A) (x : A) → n ≤ length xs → drop n (xs ++ x ∷ []) ≡ drop n xs ++ x ∷ []
drop-push zero xs x within = refl
drop-push (suc n) [] x within = absurd (omega arith)
drop-push (suc n) (y ∷ xs) x within = drop-push n xs x (omega arith)

pub drop-whole : {A : Type 0} (xs : List A) → drop (length xs) xs ≡ []
drop-whole [] = refl
drop-whole (x ∷ xs) = drop-whole xs

-- the elements from n up to m, and those from m on, are those from n on
pub drop-between : {A : Type 0} (n m : ℕ) (xs : List A) → n ≤ m → m ≤ length xs → drop n (take m xs) ++ drop m xs ≡ drop n xs
drop-between zero zero xs le within = refl
drop-between zero (suc m) [] le within = absurd (omega arith)
drop-between zero (suc m) (x ∷ xs) le within = ap (λ ys. x ∷ ys) (drop-between zero m xs (omega arith) (omega arith))
drop-between (suc n) zero xs le within = absurd (omega arith)
drop-between (suc n) (suc m) [] le within = absurd (omega arith)
drop-between (suc n) (suc m) (x ∷ xs) le within = drop-between n m xs (omega arith) (omega arith)

-- prefixes of a prefix
pub take-take : {A : Type 0} (n m : ℕ) (xs : List A) → n ≤ m → take n (take m xs) ≡ take n xs
take-take zero m xs le = refl
take-take (suc n) zero xs le = absurd (omega arith)
take-take (suc n) (suc m) [] le = refl
take-take (suc n) (suc m) (x ∷ xs) le = ap (λ ys. x ∷ ys) (take-take n m xs (omega arith))

pub slice_get-take : {A : Type 0} (n m : ℕ) (xs : List A) → n < m → slice_get (take m xs) n ≡ slice_get xs n
slice_get-take n zero xs less = absurd (omega arith)
slice_get-take n (suc m) [] less = refl
slice_get-take zero (suc m) (x ∷ xs) less = refl
slice_get-take (suc n) (suc m) (x ∷ xs) less = slice_get-take n m xs (omega arith)

pub length-take_most : {A : Type 0} (n : ℕ) (xs : List A) → length (take n xs) ≤ length xs
length-take_most zero xs = omega arith
length-take_most (suc n) [] = omega arith
length-take_most (suc n) (x ∷ xs) = let le = length-take_most n xs in omega arith

-- prefixes of a list with one element more
pub take-push : {A : Type 0} (n : ℕ) (xs : List A) (x : A) → n ≤ length xs → take n (xs ++ x ∷ []) ≡ take n xs
take-push zero xs x within = refl
take-push (suc n) [] x within = absurd (omega arith)
take-push (suc n) (y ∷ xs) x within = ap (λ ys. y ∷ ys) (take-push n xs x (omega arith))

abbrev empty_list : (A : Type 0) → List A
empty_list A = []

take-empty : {A : Type 0} (n : ℕ) → take n (empty_list A) ≡ empty_list A
take-empty zero = refl
take-empty (suc n) = refl

pub take-beyond : {A : Type 0} (n : ℕ) (xs : List A) (x : A) → length xs < n → take n (xs ++ x ∷ []) ≡ xs ++ x ∷ []
take-beyond zero xs x less = absurd (omega arith)
take-beyond (suc n) [] x less = ap (λ ys. x ∷ ys) (take-empty n)
take-beyond (suc n) (y ∷ xs) x less = ap (λ ys. y ∷ ys) (take-beyond n xs x (omega arith))

pub within_or_beyond : (n m : ℕ) → (n ≤ m) ⊎ (m < n)
within_or_beyond zero m = inl (omega arith)
within_or_beyond (suc n) zero = inr (omega arith)
within_or_beyond (suc n) (suc m) = ⊎_elim (λ within. inl (omega arith)) (λ beyond. inr (omega arith)) (within_or_beyond n m)

-- ---- lists made of lists

pub map-take : {A B : Type 0} (f : A → B) (n : ℕ) (xs : List A) → map f (take n xs) ≡ take n (map f xs)
map-take f zero xs = refl
map-take f (suc n) [] = refl
map-take f (suc n) (x ∷ xs) = ap (λ ys. f x ∷ ys) (map-take f n xs)

pub map-push : {A B : Type 0} (f : A → B) (xs : List A) (x : A) → map f (xs ++ x ∷ []) ≡ map f xs ++ f x ∷ []
map-push f [] x = refl
map-push f (y ∷ xs) x = ap (λ ys. f y ∷ ys) (map-push f xs x)

-- ---- elements

pub among_left : {A : Type 0} (x : A) (xs ys : List A) → IsAmong x xs → IsAmong x (xs ++ ys)
among_left x [] ys h = absurd h
among_left x (y ∷ xs) ys (inl e) = inl e
among_left x (y ∷ xs) ys (inr later) = inr (among_left x xs ys later)

pub among_right : {A : Type 0} (x : A) (xs ys : List A) → IsAmong x ys → IsAmong x (xs ++ ys)
among_right x [] ys h = h
among_right x (y ∷ xs) ys h = inr (among_right x xs ys h)

pub among_append : {A : Type 0} (x : A) (xs ys : List A) → IsAmong x (xs ++ ys) → IsAmong x xs ⊎ IsAmong x ys
among_append x [] ys h = inr h
among_append x (y ∷ xs) ys (inl e) = inl (inl e)
among_append x (y ∷ xs) ys (inr later) = ⊎_elim (λ h. inl (inr h)) (λ h. inr h) (among_append x xs ys later)

pub among_map : {A B : Type 0} (f : A → B) (x : A) (xs : List A) → IsAmong x xs → IsAmong (f x) (map f xs)
among_map f x [] h = absurd h
among_map f x (y ∷ xs) (inl e) = inl (ap f e)
among_map f x (y ∷ xs) (inr later) = inr (among_map f x xs later)

pub mapped_one : {A B : Type 0} (f : A → B) (y : B) (xs : List A) → IsAmong y (map f xs) → (x : A) × IsAmong x xs × (f x ≡ y)
mapped_one f y [] h = absurd h
mapped_one f y (x ∷ xs) (inl e) = (x, inl refl, e)
mapped_one f y (x ∷ xs) (inr later) = let r = mapped_one f y xs later in (r.0, inr r.1, r.2)

pub among_contained : {A : Type 0} (x : A) (xs : List A) → IsAmong x xs → Contains xs x
among_contained x [] h = absurd h
among_contained x (y ∷ xs) (inl e) = subst (λ z. Contains (z ∷ xs) x) (sym e) (head_contained x xs)
among_contained x (y ∷ xs) (inr later) = rest_contained y xs x (among_contained x xs later)
