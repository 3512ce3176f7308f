-- Lists that are cut in two.
use Rattle.std.proofs.Common.{◌≡◌, ◌≤◌, ◌+◌, ℕ, zero, suc, List, [], ◌∷◌, ◌++◌, Some, refl, sym, ap, ◌∙◌, length, take, drop, arith}
use Rattle.std.specs.Prelude.{slice_get}
use Rattle.std.specs.List.{AllByRecursion, enumerate_from}
use Rattle.shore_model.specs.declared.log_records.LogRecord.{LogRecord}

module _ {A : Type 0} where
  pub get-drop : (xs : List A) (cut k : ℕ) → slice_get (drop cut xs) k ≡ slice_get xs (cut + k)
  get-drop xs zero k = let e : k ≡ 0 + k = omega arith in ap (slice_get xs) e
  get-drop [] (suc cut) k = refl
  get-drop (x ∷ xs) (suc cut) k = let e : suc (cut + k) ≡ suc cut + k = omega arith in get-drop xs cut k ∙ ap (slice_get (x ∷ xs)) e

  pub get_longer : (xs ys : List A) (n : ℕ) (x : A) → slice_get xs n ≡ Some x → slice_get (xs ++ ys) n ≡ Some x
  get_longer [] ys n x h = cc
  get_longer (y ∷ xs) ys zero x h = h
  get_longer (y ∷ xs) ys (suc n) x h = get_longer xs ys n x h

  pub front_of : (xs : List A) (n m : ℕ) → n ≤ m → take n xs ++ drop n (take m xs) ≡ take m xs
  front_of xs zero m le = refl
  front_of [] (suc n) zero le = refl
  front_of [] (suc n) (suc m) le = refl
  front_of (x ∷ xs) (suc n) zero le = absurd (omega arith)
  front_of (x ∷ xs) (suc n) (suc m) le = ap (λ ys. x ∷ ys) (front_of xs n m (omega arith))

  take-nil : (n : ℕ) (xs : List A) → xs ≡ [] → take n xs ≡ []
  take-nil zero xs e = refl
  take-nil (suc n) [] e = refl
  take-nil (suc n) (x ∷ xs) e = cc

  pub take-drop : (xs : List A) (cut n : ℕ) → take n (drop cut xs) ≡ drop cut (take (cut + n) xs)
  take-drop xs zero n = let e : n ≡ 0 + n = omega arith in ap (λ k. take k xs) e
  take-drop [] (suc cut) n = take-nil n [] refl ∙ sym (ap (drop (suc cut)) (take-nil (suc cut + n) [] refl))
  take-drop (x ∷ xs) (suc cut) n = let e : suc (cut + n) ≡ suc cut + n = omega arith in take-drop xs cut n ∙ ap (λ k. drop (suc cut) (take k (x ∷ xs))) e

  pub length_take_le : (n : ℕ) (xs : List A) → length (take n xs) ≤ n
  length_take_le zero xs = omega arith
  length_take_le (suc n) [] = omega arith
  length_take_le (suc n) (x ∷ xs) = let le = length_take_le n xs in omega arith

  -- ---- what holds of each

  pub each_in_parts : (P : A → Type 0) (xs : List A) (n : ℕ) → AllByRecursion P (take n xs) → AllByRecursion P (drop n xs) → AllByRecursion P xs
  each_in_parts P xs zero front back = back
  each_in_parts P [] (suc n) front back = tt
  each_in_parts P (x ∷ xs) (suc n) front back = (front.0, each_in_parts P xs n front.1 back)

  pub each_take_less : (P : A → Type 0) (xs : List A) (n m : ℕ) → n ≤ m → AllByRecursion P (take m xs) → AllByRecursion P (take n xs)
  each_take_less P xs zero m le h = tt
  each_take_less P [] (suc n) m le h = tt
  each_take_less P (x ∷ xs) (suc n) zero le h = absurd (omega arith)
  each_take_less P (x ∷ xs) (suc n) (suc m) le h = (h.0, each_take_less P xs n m (omega arith) h.1)

pub enumerate-append : (n : ℕ) (xs ys : List LogRecord) → enumerate_from n (xs ++ ys) ≡ enumerate_from n xs ++ enumerate_from (n + length xs) ys
enumerate-append n [] ys = let e : n ≡ n + 0 = omega arith in ap (λ k. enumerate_from k ys) e
enumerate-append n (x ∷ xs) ys =
    let e : n + 1 + length xs ≡ n + suc (length xs) = omega arith in
    ap (λ es. (n, x) ∷ es) (enumerate-append (n + 1) xs ys ∙ ap (λ k. enumerate_from (n + 1) xs ++ enumerate_from k ys) e)
