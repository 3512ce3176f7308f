-- One transaction in the midst of a list: it gets another undo list, or is taken out.
use Rattle.std.proofs.Common.{◌≡◌, ◌⊎◌, inl, inr, ◌+◌, ◌≤◌, ℕ, List, [], ◌∷◌, ◌++◌, length, map, true, false, cond, refl, sym, ap, subst, ◌∙◌, arith}
use Rattle.std.specs.Prelude.{◌==◌, not}
use Rattle.std.specs.List.{AllByRecursion}
use Rattle.std.proofs.lemmas.Bool.{eqb-true, eq-eqb}
use Rattle.laws_room.specs.LogRooms.{owed, owed_by_all}
use Rattle.laws_lives.specs.Sessions.{EachOnce, SessionTxn, txns_of, with_undo, without_txn}
use Rattle.laws_lives.specs.UndoLists.{UndoList}
use Rattle.laws_lives.specs.Views.{IsAmong}

-- ---- elements

module _ {A : Type 0} where
  pub among_middle : (xs ys : List A) (y : A) → IsAmong y (xs ++ y ∷ ys)
  among_middle [] ys y = inl refl
  among_middle (x ∷ xs) ys y = inr (among_middle xs ys y)

  pub among_more : (z y : A) (xs ys : List A) → IsAmong z (xs ++ ys) → IsAmong z (xs ++ y ∷ ys)
  among_more z y [] ys m = inr m
  among_more z y (x ∷ xs) ys (inl is) = inl is
  among_more z y (x ∷ xs) ys (inr m) = inr (among_more z y xs ys m)

  -- an element of the list is the one in its midst, or another
  pub among_parts : (z y : A) (xs ys : List A) → IsAmong z (xs ++ y ∷ ys) → (y ≡ z) ⊎ IsAmong z (xs ++ ys)
  among_parts z y [] ys m = m
  among_parts z y (x ∷ xs) ys (inl is) = inr (inl is)
  among_parts z y (x ∷ xs) ys (inr m) = elim (among_parts z y xs ys m) [ inl is ↦ inl is | inr rest ↦ inr (inr rest) ]

  -- in a list with one taken out no element comes twice
  pub once_less : (xs ys : List A) (y : A) → EachOnce (xs ++ y ∷ ys) → EachOnce (xs ++ ys)
  once_less [] ys y once = once.1
  once_less (x ∷ xs) ys y once = (λ m. once.0 (among_more x y xs ys m), once_less xs ys y once.1)

  -- .. and the one that was taken out is none of the others
  pub once_apart : (xs ys : List A) (y : A) → EachOnce (xs ++ y ∷ ys) → IsAmong y (xs ++ ys) → ⊥
  once_apart [] ys y once m = once.0 m
  once_apart (x ∷ xs) ys y once (inl is) = once.0 (subst (λ z. IsAmong z (xs ++ y ∷ ys)) (sym is) (among_middle xs ys y))
  once_apart (x ∷ xs) ys y once (inr m) = once_apart xs ys y once.1 m

  module _ (P : A → Type 0) where
    pub all_less : (xs ys : List A) (y : A) → AllByRecursion P (xs ++ y ∷ ys) → AllByRecursion P (xs ++ ys)
    all_less [] ys y all = all.1
    all_less (x ∷ xs) ys y all = (all.0, all_less xs ys y all.1)

    pub all_with : (xs ys : List A) (y z : A) → (P y → P z) → AllByRecursion P (xs ++ y ∷ ys) → AllByRecursion P (xs ++ z ∷ ys)
    all_with [] ys y z step all = (step all.0, all.1)
    all_with (x ∷ xs) ys y z step all = (all.0, all_with xs ys y z step all.1)

    pub all_among : (xs : List A) (x : A) → AllByRecursion P xs → IsAmong x xs → P x
    all_among [] x all m = absurd m
    all_among (y ∷ xs) x all (inl is) = subst P is all.0
    all_among (y ∷ xs) x all (inr m) = all_among xs x all.1 m

module _ {A B : Type 0} (f : A → B) where
  pub map_with : (xs ys : List A) (x y : A) → f x ≡ f y → map f (xs ++ x ∷ ys) ≡ map f (xs ++ y ∷ ys)
  map_with [] ys x y same = ap (λ b. b ∷ map f ys) same
  map_with (z ∷ xs) ys x y same = ap (λ bs. f z ∷ bs) (map_with xs ys x y same)

  pub map_parts : (xs ys : List A) (x : A) → map f (xs ++ x ∷ ys) ≡ map f xs ++ f x ∷ map f ys
  map_parts [] ys x = refl
  map_parts (z ∷ xs) ys x = ap (λ bs. f z ∷ bs) (map_parts xs ys x)

  pub map_join : (xs ys : List A) → map f (xs ++ ys) ≡ map f xs ++ map f ys
  map_join [] ys = refl
  map_join (z ∷ xs) ys = ap (λ bs. f z ∷ bs) (map_join xs ys)

  pub among_map : (x : A) (xs : List A) → IsAmong x xs → IsAmong (f x) (map f xs)
  among_map x [] m = absurd m
  among_map x (y ∷ xs) (inl is) = inl (ap f is)
  among_map x (y ∷ xs) (inr m) = inr (among_map x xs m)

  pub map_among : (b : B) (xs : List A) → IsAmong b (map f xs) → (x : A) × IsAmong x xs × (f x ≡ b)
  map_among b [] m = absurd m
  map_among b (y ∷ xs) (inl is) = (y, inl refl, is)
  map_among b (y ∷ xs) (inr m) = let rest = map_among b xs m in (rest.0, inr rest.1, rest.2)

  -- two elements that come once and have the same value are one
  pub once_same : (xs : List A) → EachOnce (map f xs) → (x y : A) → IsAmong x xs → IsAmong y xs → f x ≡ f y → x ≡ y
  once_same [] once x y m n same = absurd m
  once_same (z ∷ xs) once x y (inl is) (inl js) same = sym is ∙ js
  once_same (z ∷ xs) once x y (inl is) (inr n) same = absurd (once.0 (subst (λ b. IsAmong b (map f xs)) (sym (ap f is ∙ same)) (among_map y xs n)))
  once_same (z ∷ xs) once x y (inr m) (inl js) same = absurd (once.0 (subst (λ b. IsAmong b (map f xs)) (same ∙ sym (ap f js)) (among_map x xs m)))
  once_same (z ∷ xs) once x y (inr m) (inr n) same = once_same xs once.1 x y m n same

-- ---- transactions of sessions

abbrev pub with_its : SessionTxn → UndoList → SessionTxn
with_its a undo = record { session = a.session; txn = a.txn; undo = undo }

unchanged : (t : ℕ) (xs : List SessionTxn) → (IsAmong t (txns_of xs) → ⊥) → ((undo : UndoList) → with_undo t undo xs ≡ xs) × (without_txn t xs ≡ xs)
unchanged t [] none = (λ undo. refl, refl)
unchanged t (x ∷ xs) none =
    let rest = unchanged t xs (λ m. none (inr m)) in
    elim (x.txn == t) as (λ b. (x.txn == t) ≡ b → ((undo : UndoList) → cond b (with_its x undo) x ∷ with_undo t undo xs ≡ x ∷ xs) × (cond (not b) (x ∷ without_txn t xs) (without_txn t xs) ≡ x ∷ xs)) [
      | true ↦ λ e. absurd (none (inl (eqb-true x.txn t e)))
      | false ↦ λ e. (λ undo. ap (λ ys. x ∷ ys) (rest.0 undo), ap (λ ys. x ∷ ys) rest.1)
    ] refl

module _ (a : SessionTxn) (older : List SessionTxn) where
  middle_txn : (newer : List SessionTxn) → IsAmong a.txn (txns_of (newer ++ a ∷ older))
  middle_txn [] = inl refl
  middle_txn (x ∷ newer) = inr (middle_txn newer)

  -- one gets another undo list, or is taken out
  pub with_one : (newer : List SessionTxn) → EachOnce (txns_of (newer ++ a ∷ older)) → (undo : UndoList) → with_undo a.txn undo (newer ++ a ∷ older) ≡ newer ++ with_its a undo ∷ older
  with_one [] once undo =
      ap (λ b. cond b (with_its a undo) a ∷ with_undo a.txn undo older) (eq-eqb a.txn a.txn refl)
      ∙ ap (λ l. with_its a undo ∷ l) ((unchanged a.txn older once.0).0 undo)
  with_one (x ∷ newer) once undo =
      elim (x.txn == a.txn) as (λ b. (x.txn == a.txn) ≡ b → cond b (with_its x undo) x ∷ with_undo a.txn undo (newer ++ a ∷ older) ≡ x ∷ newer ++ with_its a undo ∷ older) [
        | true ↦ λ e. absurd (once.0 (subst (λ t. IsAmong t (txns_of (newer ++ a ∷ older))) (sym (eqb-true x.txn a.txn e)) (middle_txn newer)))
        | false ↦ λ e. ap (λ l. x ∷ l) (with_one newer once.1 undo)
      ] refl

  pub without_one : (newer : List SessionTxn) → EachOnce (txns_of (newer ++ a ∷ older)) → without_txn a.txn (newer ++ a ∷ older) ≡ newer ++ older
  without_one [] once =
      ap (λ b. cond (not b) (a ∷ without_txn a.txn older) (without_txn a.txn older)) (eq-eqb a.txn a.txn refl)
      ∙ (unchanged a.txn older once.0).1
  without_one (x ∷ newer) once =
      elim (x.txn == a.txn) as (λ b. (x.txn == a.txn) ≡ b → cond (not b) (x ∷ without_txn a.txn (newer ++ a ∷ older)) (without_txn a.txn (newer ++ a ∷ older)) ≡ x ∷ newer ++ older) [
        | true ↦ λ e. absurd (once.0 (subst (λ t. IsAmong t (txns_of (newer ++ a ∷ older))) (sym (eqb-true x.txn a.txn e)) (middle_txn newer)))
        | false ↦ λ e. ap (λ l. x ∷ l) (without_one newer once.1)
      ] refl

-- ---- what they owe

pub owed_parts : (newer older : List SessionTxn) (a : SessionTxn) → owed_by_all (newer ++ a ∷ older) ≡ owed_by_all (newer ++ older) + owed a
owed_parts [] older a = omega arith
owed_parts (x ∷ newer) older a = let rest = owed_parts newer older a in omega (arith, rest)

pub owed_among : (a : SessionTxn) (xs : List SessionTxn) → IsAmong a xs → owed a ≤ owed_by_all xs
owed_among a [] m = absurd m
owed_among a (x ∷ xs) (inl is) = let same : owed x ≡ owed a = ap owed is in omega (arith, same)
owed_among a (x ∷ xs) (inr m) = let rest = owed_among a xs m in omega (arith, rest)

-- each owes its ending at least
pub count_owed : (xs : List SessionTxn) → length xs ≤ owed_by_all xs
count_owed [] = omega arith
count_owed (x ∷ xs) = let rest = count_owed xs in omega (arith, rest)
