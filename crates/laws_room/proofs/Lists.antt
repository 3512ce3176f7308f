-- Values of a function by their numbers, the images of undo lists, and a table with one transaction taken out.
use Rattle.std.proofs.Common.{◌≡◌, ◌≢◌, ◌⊎◌, inl, inr, ⊎_elim, ◌+◌, ◌<◌, ◌≤◌, ℕ, zero, suc, List, [], ◌∷◌, ◌++◌, length, replicate, Some, true, false, cond, refl, sym, ap, subst, ◌∙◌, arith}
use Rattle.std.specs.Prelude.{◌==◌, not, slice_get}
use Rattle.std.proofs.lemmas.Bool.{eqb-true, eq-eqb, ne_eqb}
use Rattle.std.proofs.lemmas.List.{append_assoc, append-nil}
use Rattle.shore_types.specs.declared.ids.Rid.{Rid}
use Rattle.shore_types.specs.Images.{Image}
use Rattle.shore_page.specs.Slots.{with_change}
use Rattle.laws_room.specs.Claims.{before_of, befores_at, befores_in, each_from}
use Rattle.laws_lives.specs.Sessions.{EachOnce, SessionTxn, txns_of, with_undo, without_txn}
use Rattle.laws_lives.specs.UndoLists.{UndoList}
use Rattle.laws_lives.specs.Views.{IsAmong}
use Rattle.laws_lives.proofs.Members.{txn_among}

-- ---- values of a function

pub length-each : {A : Type 0} (f : ℕ → A) (first n : ℕ) → length (each_from f first n) ≡ n
length-each f first zero = refl
length-each f first (suc n) = ap suc (length-each f (suc first) n)

pub each_alike : {A : Type 0} (f g : ℕ → A) (first n : ℕ) → ((i : ℕ) → first ≤ i → i < first + n → f i ≡ g i) → each_from f first n ≡ each_from g first n
each_alike f g first zero same = refl
each_alike f g first (suc n) same =
    ap (λ x. x ∷ each_from f (suc first) n) (same first (omega arith) (omega arith))
    ∙ ap (λ xs. g first ∷ xs) (each_alike f g (suc first) n (λ i le less. same i (omega arith) (omega arith)))

-- one value changed
each_changed_from : {A : Type 0} (h : A → A) (f g : ℕ → A) (first n i : ℕ) → g (first + i) ≡ h (f (first + i)) → ((j : ℕ) → j ≢ first + i → g j ≡ f j) → i < n
    → each_from g first n ≡ with_change h (each_from f first n) i
each_changed_from h f g first zero i here there less = absurd (omega arith)
each_changed_from h f g first (suc n) zero here there less =
    let at : first + 0 ≡ first = omega arith in
    ap (λ x. x ∷ each_from g (suc first) n) (subst (λ k. g k ≡ h (f k)) at here)
    ∙ ap (λ xs. h (f first) ∷ xs) (each_alike g f (suc first) n (λ j le below. there j (λ e. absurd (omega arith))))
each_changed_from h f g first (suc n) (suc i) here there less =
    let at : first + suc i ≡ suc first + i = omega arith in
    ap (λ x. x ∷ each_from g (suc first) n) (there first (λ e. absurd (omega arith)))
    ∙ ap (λ xs. f first ∷ xs)
    (each_changed_from h f g (suc first) n i (subst (λ k. g k ≡ h (f k)) at here) (λ j other. there j (λ e. other (e ∙ at))) (omega arith))

pub each_changed : {A : Type 0} (h : A → A) (f g : ℕ → A) (n i : ℕ) → g i ≡ h (f i) → ((j : ℕ) → j ≢ i → g j ≡ f j) → i < n
    → each_from g 0 n ≡ with_change h (each_from f 0 n) i
each_changed h f g n i here there less =
    let at : i ≡ 0 + i = omega arith in
    each_changed_from h f g 0 n i (subst (λ k. g k ≡ h (f k)) at here) (λ j other. there j (λ e. other (e ∙ at))) less

-- values in two parts
each_append_from : {A : Type 0} (f : ℕ → A) (first m n : ℕ) → each_from f first (m + n) ≡ each_from f first m ++ each_from f (first + m) n
each_append_from f first zero n =
    let none : zero + n ≡ n = omega arith in
    let at : first ≡ first + zero = omega arith in
    ap (each_from f first) none ∙ ap (λ k. each_from f k n) at
each_append_from f first (suc m) n =
    let more : suc m + n ≡ suc (m + n) = omega arith in
    let at : suc first + m ≡ first + suc m = omega arith in
    ap (each_from f first) more ∙ ap (λ l. f first ∷ l) (each_append_from f (suc first) m n ∙ ap (λ k. each_from f (suc first) m ++ each_from f k n) at)

pub each_append : {A : Type 0} (f : ℕ → A) (m n : ℕ) → each_from f 0 (m + n) ≡ each_from f 0 m ++ each_from f m n
each_append f m n = let at : 0 + m ≡ m = omega arith in each_append_from f 0 m n ∙ ap (λ k. each_from f 0 m ++ each_from f k n) at

-- values that are all one
pub each_same : {A : Type 0} (f : ℕ → A) (x : A) (first n : ℕ) → ((i : ℕ) → first ≤ i → f i ≡ x) → each_from f first n ≡ replicate n x
each_same f x first zero same = refl
each_same f x first (suc n) same =
    ap (λ y. y ∷ each_from f (suc first) n) (same first (omega arith))
    ∙ ap (λ l. x ∷ l) (each_same f x (suc first) n (λ i le. same i (omega arith)))

-- a value
each_at_from : {A : Type 0} (f : ℕ → A) (first n i : ℕ) → i < n → slice_get (each_from f first n) i ≡ Some (f (first + i))
each_at_from f first zero i less = absurd (omega arith)
each_at_from f first (suc n) zero less = let at : first ≡ first + 0 = omega arith in ap (λ k. Some (f k)) at
each_at_from f first (suc n) (suc i) less =
    let at : suc first + i ≡ first + suc i = omega arith in each_at_from f (suc first) n i (omega arith)
    ∙ ap (λ k. Some (f k)) at

pub each_at : {A : Type 0} (f : ℕ → A) (n i : ℕ) → i < n → slice_get (each_from f 0 n) i ≡ Some (f i)
each_at f n i less = let at : 0 + i ≡ i = omega arith in each_at_from f 0 n i less ∙ ap (λ k. Some (f k)) at

-- ---- images that come back

pub befores_push : (id : Rid) (es : List (Rid × Image)) (e : Rid × Image) → befores_in id (es ++ e ∷ []) ≡ before_of id e ++ befores_in id es
befores_push id [] e = sym (append-nil (before_of id e))
befores_push id (x ∷ es) e = ap (λ xs. xs ++ before_of id x) (befores_push id es e) ∙ append_assoc (before_of id e) (befores_in id es) (before_of id x)

pub befores_append : (id : Rid) (xs ys : List SessionTxn) → befores_at id (xs ++ ys) ≡ befores_at id xs ++ befores_at id ys
befores_append id [] ys = refl
befores_append id (x ∷ xs) ys =
    ap (λ l. befores_in id x.undo.images ++ l) (befores_append id xs ys)
    ∙ sym (append_assoc (befores_in id x.undo.images) (befores_at id xs) (befores_at id ys))

pub none_at : (id : Rid) (xs : List SessionTxn) → ((b : SessionTxn) → IsAmong b xs → befores_in id b.undo.images ≡ []) → befores_at id xs ≡ []
none_at id [] none = refl
none_at id (x ∷ xs) none = ap (λ l. l ++ befores_at id xs) (none x (inl refl)) ∙ none_at id xs (λ b m. none b (inr m))

pub not_empty : {A : Type 0} {x : A} {xs : List A} → x ∷ xs ≡ [] → ⊥
not_empty e = cc

pub append_empty : {A : Type 0} (xs ys : List A) → xs ++ ys ≡ [] → (xs ≡ []) × (ys ≡ [])
append_empty [] ys e = (refl, e)
append_empty (x ∷ xs) ys e = absurd (not_empty e)

-- ---- one transaction taken out

abbrev pub with_its : SessionTxn → UndoList → SessionTxn
with_its a undo = record { session = a.session; txn = a.txn; undo = undo }

pub record IsSplit (xs : List SessionTxn) (a : SessionTxn) : Type 0 where
  pub front : List SessionTxn
  pub back : List SessionTxn
  pub whole : xs ≡ front ++ a ∷ back
  pub with_it : (undo : UndoList) → with_undo a.txn undo xs ≡ front ++ with_its a undo ∷ back
  pub left_out : without_txn a.txn xs ≡ front ++ back
  pub others : (b : SessionTxn) → IsAmong b front ⊎ IsAmong b back → IsAmong b xs × (b.txn ≢ a.txn)

unchanged : (t : ℕ) (xs : List SessionTxn) → (IsAmong t (txns_of xs) → ⊥) → ((undo : UndoList) → with_undo t undo xs ≡ xs) × (without_txn t xs ≡ xs)
unchanged t [] none = (λ undo. refl, refl)
unchanged t (x ∷ xs) none =
    let rest = unchanged t xs (λ m. none (inr m)) in
    elim (x.txn == t) as (λ b. (x.txn == t) ≡ b → ((undo : UndoList) → cond b (with_its x undo) x ∷ with_undo t undo xs ≡ x ∷ xs) × (cond (not b) (x ∷ without_txn t xs) (without_txn t xs) ≡ x ∷ xs)) [
      | true ↦ λ e. absurd (none (inl (eqb-true x.txn t e)))
      | false ↦ λ e. (λ undo. ap (λ ys. x ∷ ys) (rest.0 undo), ap (λ ys. x ∷ ys) rest.1)
    ] refl

other_txn : (t : ℕ) (xs : List SessionTxn) → (IsAmong t (txns_of xs) → ⊥) → (b : SessionTxn) → IsAmong b xs → b.txn ≢ t
other_txn t xs none b m e = none (subst (λ u. IsAmong u (txns_of xs)) e (txn_among b xs m))

pub split : (xs : List SessionTxn) (a : SessionTxn) → EachOnce (txns_of xs) → IsAmong a xs → IsSplit xs a
split [] a once m = absurd m
split (x ∷ xs) a once (inl is) =
    let same : (x : SessionTxn) → x ≡ a → (IsAmong x.txn (txns_of xs) → ⊥) → IsSplit (x ∷ xs) a = λ x is none.
    subst (λ (y : SessionTxn). (IsAmong y.txn (txns_of xs) → ⊥) → IsSplit (y ∷ xs) a) (sym is) (here a) none in
    same x is once.0
  where
    here : (a : SessionTxn) → (IsAmong a.txn (txns_of xs) → ⊥) → IsSplit (a ∷ xs) a
    here a none =
        let rest = unchanged a.txn xs none in
        let it : (a.txn == a.txn) ≡ true = eq-eqb a.txn a.txn refl in
        record {
          front = [];
          back = xs;
          whole = refl;
          with_it = λ undo. ap (λ b. cond b (with_its a undo) a ∷ with_undo a.txn undo xs) it ∙ ap (λ ys. with_its a undo ∷ ys) (rest.0 undo);
          left_out = ap (λ b. cond (not b) (a ∷ without_txn a.txn xs) (without_txn a.txn xs)) it ∙ rest.1;
          others = λ b m. ⊎_elim (λ nobody. absurd nobody) (λ there. (inr there, other_txn a.txn xs none b there)) m;
        }
split (x ∷ xs) a once (inr m) =
    let h = split xs a once.1 m in
    let other : a.txn ≢ x.txn = other_txn x.txn xs once.0 a m in
    let it : (x.txn == a.txn) ≡ false = ne_eqb x.txn a.txn (λ e. other (sym e)) in
    record {
      front = x ∷ h.front;
      back = h.back;
      whole = ap (λ ys. x ∷ ys) h.whole;
      with_it = λ undo. ap (λ b. cond b (with_its x undo) x ∷ with_undo a.txn undo xs) it ∙ ap (λ ys. x ∷ ys) (h.with_it undo);
      left_out = ap (λ b. cond (not b) (x ∷ without_txn a.txn xs) (without_txn a.txn xs)) it ∙ ap (λ ys. x ∷ ys) h.left_out;
      others = λ b m. ⊎_elim
          (λ f. ⊎_elim (λ e. (inl e, subst (λ (y : SessionTxn). y.txn ≢ a.txn) e (λ e. other (sym e)))) (λ later. let g = h.others b (inl later) in (inr g.0, g.1)) f) (λ k. let g = h.others b (inr k) in (inr g.0, g.1)) m;
    }
