-- Lists of transactions that are in doubt, or decided by a resolve, without one; and how many of these are under way no more.
use Rattle.std.proofs.Common.{◌≡◌, ◌≢◌, inl, inr, ⊎_elim, ◌∷◌, ◌+◌, ◌≤◌, ℕ, List, [], Bool, true, false, cond, refl, sym, ap, subst, ◌∙◌, arith, length, map, not}
use Rattle.std.specs.Prelude.{◌==◌, ◌||◌, filter}
use Rattle.std.specs.List.{list_any}
use Rattle.std.proofs.lemmas.Bool.{eq-eqb, eqb-false, eqb-true, ne_eqb}
use Rattle.laws_lives.proofs.Lists.{among_map}
use Rattle.laws_lives.specs.Sessions.{EachOnce, ResolvedTxn, SessionTxn, txns_of, without_resolved, without_txn}
use Rattle.laws_lives.specs.Views.{IsAmong}
use Rattle.laws_calls.proofs.Links.{ended_without}
use Rattle.laws_calls.specs.CallSteps.{ended_among}

-- ---- members

pub kept_but : {A : Type 0} (f : A → ℕ) (t : ℕ) (x : A) (xs : List A) → IsAmong x (filter (λ y. not (t == f y)) xs) → IsAmong x xs × (f x ≢ t)
kept_but f t x [] m = absurd m
kept_but {A} f t x (y ∷ xs) m =
    (elim (t == f y) as (λ b. (t == f y) ≡ b → IsAmong x (cond (not b) (y ∷ filter (λ y. not (t == f y)) xs) (filter (λ y. not (t == f y)) xs)) → IsAmong x (y ∷ xs) × (f x ≢ t)) [
      | true ↦ λ e h. let rest = kept_but f t x xs h in (inr rest.0, rest.1)
      | false ↦ λ e h. ⊎_elim (λ same. (inl same, λ is. eqb-false t (f y) e (sym (ap f same ∙ is)))) (λ later. let rest = kept_but f t x xs later in (inr rest.0, rest.1)) h
    ]) refl m

pub left_but : {A : Type 0} (f : A → ℕ) (t : ℕ) (x : A) (xs : List A) → IsAmong x xs → f x ≢ t → IsAmong x (filter (λ y. not (t == f y)) xs)
left_but f t x [] m other = absurd m
left_but f t x (y ∷ xs) m other =
    (elim (t == f y) as (λ b. (t == f y) ≡ b → IsAmong x (cond (not b) (y ∷ filter (λ y. not (t == f y)) xs) (filter (λ y. not (t == f y)) xs))) [
      | true ↦ λ e. ⊎_elim (λ same. absurd (other (sym (eqb-true t (f y) e ∙ ap f same)))) (λ later. left_but f t x xs later other) m
      | false ↦ λ e. ⊎_elim (λ same. inl same) (λ later. inr (left_but f t x xs later other)) m
    ]) refl

-- of two with one number there is one
pub one_resolved : (r q : ResolvedTxn) (rs : List ResolvedTxn) → EachOnce (map (λ (x : ResolvedTxn). x.txn) rs) → IsAmong r rs → IsAmong q rs → r.txn ≡ q.txn → r ≡ q
one_resolved r q [] once m n same = absurd m
one_resolved r q (x ∷ rs) once (inl d) (inl e) same = sym d ∙ e
one_resolved r q (x ∷ rs) once (inl d) (inr later) same =
    absurd (once.0 (subst (λ t. IsAmong t (map (λ (x : ResolvedTxn). x.txn) rs)) (sym same ∙ ap (λ (x : ResolvedTxn). x.txn) (sym d)) (among_map (λ (x : ResolvedTxn). x.txn) q rs later)))
one_resolved r q (x ∷ rs) once (inr later) (inl e) same =
    absurd (once.0 (subst (λ t. IsAmong t (map (λ (x : ResolvedTxn). x.txn) rs)) (same ∙ ap (λ (x : ResolvedTxn). x.txn) (sym e)) (among_map (λ (x : ResolvedTxn). x.txn) r rs later)))
one_resolved r q (x ∷ rs) once (inr m) (inr n) same = one_resolved r q rs once.1 m n same

-- ---- counts

under_way_any : (t : ℕ) (active : List SessionTxn) → IsAmong t (txns_of active) → list_any (λ (a : SessionTxn). a.txn == t) active ≡ true
under_way_any t [] m = absurd m
under_way_any t (x ∷ xs) (inl same) = ap (λ b. b || list_any (λ (a : SessionTxn). a.txn == t) xs) (eq-eqb x.txn t same)
under_way_any t (x ∷ xs) (inr later) = ap (λ b. (x.txn == t) || b) (under_way_any t xs later) ∙ or_true (x.txn == t)
  where
    or_true : (b : Bool) → (b || true) ≡ true
    or_true true = refl
    or_true false = refl

-- one more that is under way is not counted
pub ended_still : (active : List SessionTxn) (r : ResolvedTxn) (rs : List ResolvedTxn) → IsAmong r.txn (txns_of active) → ended_among active (r ∷ rs) ≡ ended_among active rs
ended_still active r rs m = ap (λ b. cond (not b) (r ∷ ended_among active rs) (ended_among active rs)) (under_way_any r.txn active m)

-- one more is one more at most
pub ended_more : (active : List SessionTxn) (r : ResolvedTxn) (rs : List ResolvedTxn) → length (ended_among active (r ∷ rs)) ≤ 1 + length (ended_among active rs)
ended_more active r rs = by (list_any (λ (a : SessionTxn). a.txn == r.txn) active)
  where
    by : (b : Bool) → length (cond (not b) (r ∷ ended_among active rs) (ended_among active rs)) ≤ 1 + length (ended_among active rs)
    by true = omega arith
    by false = omega arith

-- who ends is one more at most, if no transaction is decided twice
pub ended_once : (t : ℕ) (active : List SessionTxn) (rs : List ResolvedTxn) → EachOnce (map (λ (x : ResolvedTxn). x.txn) rs)
    → length (ended_among (without_txn t active) rs) ≤ 1 + length (ended_among active rs)
ended_once t active [] once = omega arith
ended_once t active (r ∷ rs) once = by (r.txn == t) refl (ended_once t active rs once.1)
  where
    without : Bool
    without = list_any (λ (a : SessionTxn). a.txn == r.txn) (without_txn t active)

    all : Bool
    all = list_any (λ (a : SessionTxn). a.txn == r.txn) active

    fewer : (a b : Bool) (xs ys : List ResolvedTxn) → length xs ≤ length ys → length (cond (not a) (r ∷ xs) xs) ≤ 1 + length (cond (not b) (r ∷ ys) ys)
    fewer true true xs ys le = omega (arith, le)
    fewer true false xs ys le = omega (arith, le)
    fewer false true xs ys le = omega (arith, le)
    fewer false false xs ys le = omega (arith, le)

    alike : (a : Bool) (xs ys : List ResolvedTxn) → length xs ≤ 1 + length ys → length (cond (not a) (r ∷ xs) xs) ≤ 1 + length (cond (not a) (r ∷ ys) ys)
    alike true xs ys le = omega (arith, le)
    alike false xs ys le = omega (arith, le)

    still : r.txn ≢ t → (xs : List SessionTxn) → list_any (λ (a : SessionTxn). a.txn == r.txn) (without_txn t xs) ≡ list_any (λ (a : SessionTxn). a.txn == r.txn) xs
    still other [] = refl
    still other (x ∷ xs) =
        elim (x.txn == t) as (λ b. (x.txn == t) ≡ b → list_any (λ (a : SessionTxn). a.txn == r.txn) (cond (not b) (x ∷ without_txn t xs) (without_txn t xs)) ≡ ((x.txn == r.txn) || list_any (λ (a : SessionTxn). a.txn == r.txn) xs)) [
          | true ↦ λ e. still other xs ∙ ap (λ c. c || list_any (λ (a : SessionTxn). a.txn == r.txn) xs) (sym (ne_eqb x.txn r.txn (λ same. other (sym same ∙ eqb-true x.txn t e))))
          | false ↦ λ e. ap (λ c. (x.txn == r.txn) || c) (still other xs)
        ] refl

    by : (b : Bool) → (r.txn == t) ≡ b → length (ended_among (without_txn t active) rs) ≤ 1 + length (ended_among active rs) → length (ended_among (without_txn t active) (r ∷ rs)) ≤ 1 + length (ended_among active (r ∷ rs))
    by true e rest =
        let same = ended_without t active rs (λ m. once.0 (subst (λ u. IsAmong u (map (λ (x : ResolvedTxn). x.txn) rs)) (sym (eqb-true r.txn t e)) m)) in
        let long = ap length same in
        fewer without all (ended_among (without_txn t active) rs) (ended_among active rs) (omega (arith, long))
    by false e rest =
        subst (λ b. length (cond (not b) (r ∷ ended_among (without_txn t active) rs) (ended_among (without_txn t active) rs)) ≤ 1 + length (ended_among active (r ∷ rs))) (sym (still (eqb-false r.txn t e) active))
        (alike all (ended_among (without_txn t active) rs) (ended_among active rs) rest)

-- who is answered is counted no more
pub ended_answered : (t : ℕ) (active : List SessionTxn) (rs : List ResolvedTxn) → length (ended_among active (without_resolved t rs)) ≤ length (ended_among active rs)
ended_answered t active [] = omega arith
ended_answered t active (r ∷ rs) =
    let rest = ended_answered t active rs in
    elim (t == r.txn) as (λ b. length (ended_among active (cond (not b) (r ∷ without_resolved t rs) (without_resolved t rs))) ≤ length (ended_among active (r ∷ rs))) [
      | true ↦ by (list_any (λ (a : SessionTxn). a.txn == r.txn) active) (ended_among active (without_resolved t rs)) (ended_among active rs) rest
      | false ↦ both (list_any (λ (a : SessionTxn). a.txn == r.txn) active) (ended_among active (without_resolved t rs)) (ended_among active rs) rest
    ]
  where
    by : (b : Bool) (xs ys : List ResolvedTxn) → length xs ≤ length ys → length xs ≤ length (cond (not b) (r ∷ ys) ys)
    by true xs ys le = le
    by false xs ys le = omega (arith, le)

    both : (b : Bool) (xs ys : List ResolvedTxn) → length xs ≤ length ys → length (cond (not b) (r ∷ xs) xs) ≤ length (cond (not b) (r ∷ ys) ys)
    both true xs ys le = le
    both false xs ys le = omega (arith, le)
