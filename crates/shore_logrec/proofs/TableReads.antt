-- Tables: what is read is spelled so, and what is spelled so is read.
use Rattle.std.proofs.Common.{◌≡◌, ℕ, zero, suc, ◌+◌, ◌-◌, ◌*◌, ◌^◌, ◌<◌, ◌≤◌, Bool, true, false, cond, eqb, ltb, List, [], ◌∷◌, ◌++◌, length, Option, Some, None, All, refl, sym, ap, subst, ◌∙◌, append_assoc, arith}
use Rattle.std.specs.Prelude.{◌&&◌, flat_map, IsTrue, nat_lt}
use Rattle.std.specs.Cmp.{IsTotalOrder}
use Rattle.std.specs.Ordering.{is_lt}
use Rattle.std.specs.declared.cmp.Ordering.{Ordering}
use Rattle.std.specs.declared.cmp.Ordering.TheVariants.{Less, Equal, Greater}
use Rattle.std.specs.List.Sorted.{IsStrictlySortedBy}
use Rattle.std.proofs.lemmas.Bool.{and_parts, ltb-false, le-ltb}
use Rattle.std.proofs.lemmas.List.{length-append}
use Rattle.std.proofs.lemmas.List.Elements.{All-nil, All-cons, All-head, All-tail, All-weaker, All-from_recursion, recursion_from_All}
use Rattle.std.proofs.lemmas.Map.Keys.{sorted_head, sorted_tail}
use Rattle.byteorder.specs.Endian.{little_bytes}
use Rattle.shore_model.specs.declared.log_records.LogTxn.{LogTxn}
use Rattle.shore_model.specs.Logs.{rise_above}
use Rattle.shore_logrec.specs.Text.{table_text}
use Rattle.shore_logrec.specs.Reading.{◌>>=◌, Reader, entries_from, follows, number_at, table_at, txn_before}
use Rattle.shore_logrec.proofs.Numbers.{IsBytes}
use Rattle.shore_logrec.proofs.Readers.{IsReader, IsBytes-behind, bind_some, number_reads, some_is}

-- ---- entries that rise

-- each comes before the next one, and the first behind the last one, if there is one
abbrev pub rise_behind : {A : Type 0} → (A → A → Bool) → Option A → List A → Bool
rise_behind before last [] = true
rise_behind before last (x ∷ xs) = follows before last x && rise_behind before (Some x) xs

less : (o : Ordering) → is_lt o ≡ true → o ≡ Less
less Less e = refl
less Equal e = absurd cc
less Greater e = absurd cc

both_true : (a b : Bool) → a ≡ true → b ≡ true → (a && b) ≡ true
both_true true true p q = refl
both_true true false p q = absurd cc
both_true false b p q = absurd cc

module _ {A : Type 0} (cmp : A → A → Ordering) (order : IsTotalOrder cmp) where
  abbrev comes_before : A → A → Bool
  comes_before x y = is_lt (cmp x y)

  in_front : (x y : A) (ys : List A) → cmp x y ≡ Less → IsStrictlySortedBy cmp (y ∷ ys) → IsStrictlySortedBy cmp (x ∷ y ∷ ys)
  unfolding IsStrictlySortedBy
  in_front x y ys e s = ((e, recursion_from_All (λ z. cmp x z ≡ Less) ys (All-weaker (λ z. cmp y z ≡ Less) (λ z. cmp x z ≡ Less) (λ z. order.trans x y z e) ys (All-from_recursion (λ z. cmp y z ≡ Less) ys s.0))), s)

  sorted_behind : (x : A) (xs : List A) → rise_behind comes_before (Some x) xs ≡ true → IsStrictlySortedBy cmp (x ∷ xs)
  unfolding IsStrictlySortedBy
  sorted_behind x [] e = (tt, tt)
  sorted_behind x (y ∷ ys) e =
      let k = and_parts _ _ e in
      in_front x y ys (less _ k.0) (sorted_behind y ys k.1)

  pub sorted_from_rise : (xs : List A) → rise_behind comes_before None xs ≡ true → IsStrictlySortedBy cmp xs
  unfolding IsStrictlySortedBy
  sorted_from_rise [] e = tt
  sorted_from_rise (x ∷ xs) e = sorted_behind x xs e

  rise_after : (x : A) (xs : List A) → IsStrictlySortedBy cmp (x ∷ xs) → rise_behind comes_before (Some x) xs ≡ true
  rise_after x [] s = refl
  rise_after x (y ∷ ys) s =
      both_true _ _ (ap is_lt (sorted_head cmp x (y ∷ ys) s).0) (rise_after y ys (sorted_tail cmp x (y ∷ ys) s))

  pub rise_from_sorted : (xs : List A) → IsStrictlySortedBy cmp xs → rise_behind comes_before None xs ≡ true
  rise_from_sorted [] s = refl
  rise_from_sorted (x ∷ xs) s = rise_after x xs s

-- transactions rise, and the first has a number above 0
same_rise : (t : LogTxn) (ts : List LogTxn) → rise_behind txn_before (Some t) ts ≡ rise_above t.txn ts
same_rise t [] = refl
same_rise t (u ∷ ts) = ap (λ (b : Bool). nat_lt t.txn u.txn && b) (same_rise u ts)

pub above_from_rise : (ts : List LogTxn) (P : LogTxn → Type 0) → ((t : LogTxn) → P t → nat_lt 0 t.txn ≡ true) → All P ts → rise_behind txn_before None ts ≡ true → IsTrue (rise_above 0 ts)
above_from_rise [] P some fit e = refl
above_from_rise (t ∷ ts) P some fit e = both_true _ _ (some t (All-head P t ts fit)) (sym (same_rise t ts) ∙ e)

pub rise_from_above : (ts : List LogTxn) → IsTrue (rise_above 0 ts) → rise_behind txn_before None ts ≡ true
rise_from_above [] e = refl
rise_from_above (t ∷ ts) e = same_rise t ts ∙ (and_parts _ _ e).1

-- ---- entries that are read

-- so many entries, each of which fits, behind the last one
pub record AreSoMany {A : Type 0} (before : A → A → Bool) (FitsSo : A → Type 0) (last : Option A) (n : ℕ) (xs : List A) : Type 0 where
  pub count : length xs ≡ n
  pub fit : All FitsSo xs
  pub rise : rise_behind before last xs ≡ true

-- at most so many
pub record IsTableOf {A : Type 0} (most : ℕ) (before : A → A → Bool) (FitsSo : A → Type 0) (xs : List A) : Type 0 where
  pub few : length xs ≤ most
  pub fit : All FitsSo xs
  pub rise : rise_behind before None xs ≡ true

kept_some : {A : Type 0} (b : Bool) (r : Option A) (y : A) → cond b r None ≡ Some y → (b ≡ true) × (r ≡ Some y)
kept_some true r y e = (refl, e)
kept_some false r y e = absurd cc

-- a test that did not fail, and what comes behind it
pub none_kept : {A : Type 0} (b : Bool) (r : Option A) (y : A) → cond b None r ≡ Some y → (b ≡ false) × (r ≡ Some y)
none_kept true r y e = absurd cc
none_kept false r y e = (refl, e)

rejoin : (front behind rest bytes later : List ℕ) → bytes ≡ front ++ later → later ≡ behind ++ rest → bytes ≡ (front ++ behind) ++ rest
rejoin front behind rest bytes later a b = a ∙ ap (λ (l : List ℕ). front ++ l) b ∙ sym (append_assoc front behind rest)

module _ {A : Type 0} (read : Reader A) (before : A → A → Bool) (spell : A → List ℕ) (FitsSo : A → Type 0) (one : IsReader read spell FitsSo) where
  entries_take : (last : Option A) (n : ℕ) (bytes : List ℕ) (xs : List A) (rest : List ℕ)
      → IsBytes bytes → entries_from read before last n bytes ≡ Some (xs, rest) → (bytes ≡ flat_map spell xs ++ rest) × AreSoMany before FitsSo last n xs
  unfolding entries_from
  entries_take last zero bytes xs rest fits e =
      let none : List A × List ℕ = ([], bytes) in
      subst (λ (v : List A × List ℕ). (bytes ≡ flat_map spell v.0 ++ v.1) × AreSoMany before FitsSo last 0 v.0) (some_is none (xs, rest) e)
      (refl, record { count = refl; fit = All-nil FitsSo; rise = refl })
  entries_take last (suc n) bytes xs rest fits e =
      let x = bind_some (read bytes) (λ first. cond (follows before last first.0) (entries_from read before (Some first.0) n first.1) None >>= λ behind. Some (first.0 ∷ behind.0, behind.1)) (xs, rest) e in
      let y = bind_some (cond (follows before last x.0.0) (entries_from read before (Some x.0.0) n x.0.1) None) (λ behind. Some (x.0.0 ∷ behind.0, behind.1)) (xs, rest) x.2 in
      let k = kept_some (follows before last x.0.0) (entries_from read before (Some x.0.0) n x.0.1) y.0 y.1 in
      let front = one.takes bytes x.0.0 x.0.1 fits x.1 in
      let behind = entries_take (Some x.0.0) n x.0.1 y.0.0 y.0.1 (IsBytes-behind (spell x.0.0) x.0.1 bytes front.0 fits) k.1 in
      let parts = rejoin (spell x.0.0) (flat_map spell y.0.0) y.0.1 bytes x.0.1 front.0 behind.0 in
      let many : AreSoMany before FitsSo last (suc n) (x.0.0 ∷ y.0.0) = record {
        count = ap (λ (k : ℕ). suc k) behind.1.count;
        fit = All-cons FitsSo x.0.0 y.0.0 front.1 behind.1.fit;
        rise = both_true _ _ k.0 behind.1.rise;
      } in
      let made : List A × List ℕ = (x.0.0 ∷ y.0.0, y.0.1) in
      subst (λ (v : List A × List ℕ). (bytes ≡ flat_map spell v.0 ++ v.1) × AreSoMany before FitsSo last (suc n) v.0) (some_is made (xs, rest) y.2) (parts, many)

  entries_again : (last : Option A) (n : ℕ) (xs : List A) (rest : List ℕ) → AreSoMany before FitsSo last n xs → entries_from read before last n (flat_map spell xs ++ rest) ≡ Some (xs, rest)
  unfolding entries_from
  entries_again last zero [] rest many = refl
  entries_again last zero (x ∷ xs) rest many = absurd (let e = many.count in omega arith)
  entries_again last (suc n) [] rest many = absurd (let e = many.count in omega arith)
  entries_again last (suc n) (x ∷ xs) rest many =
      let rise = and_parts (follows before last x) (rise_behind before (Some x) xs) many.rise in
      let first = one.again x (flat_map spell xs ++ rest) (All-head FitsSo x xs many.fit) in
      let later : AreSoMany before FitsSo (Some x) n xs = record { count = let e = many.count in omega arith; fit = All-tail FitsSo x xs many.fit; rise = rise.1 } in
      ap (entries_from read before last (suc n)) (append_assoc (spell x) (flat_map spell xs) rest)
      ∙ rw (first, rise.0, entries_again (Some x) n xs rest later) refl

  -- a table, whose count has n bytes
  module _ (n most : ℕ) (short : most < 256 ^ n) where
    table_takes : (bytes : List ℕ) (xs : List A) (rest : List ℕ) → IsBytes bytes → table_at n most read before bytes ≡ Some (xs, rest)
        → (bytes ≡ table_text n spell xs ++ rest) × IsTableOf most before FitsSo xs
    unfolding table_at
    table_takes bytes xs rest fits e =
        let c = bind_some (number_at n bytes) (λ count. cond (ltb most count.0) None (entries_from read before None count.0 count.1)) (xs, rest) e in
        let k = none_kept (ltb most c.0.0) (entries_from read before None c.0.0 c.0.1) (xs, rest) c.2 in
        let few : c.0.0 ≤ most = ltb-false _ _ k.0 in
        let t = (number_reads n).takes bytes c.0.0 c.0.1 fits c.1 in
        let r = entries_take None c.0.0 c.0.1 xs rest (IsBytes-behind (little_bytes n c.0.0) c.0.1 bytes t.0 fits) k.1 in
        let count = r.1.count in (
          rejoin (little_bytes n c.0.0) (flat_map spell xs) rest bytes c.0.1 t.0 r.0 ∙ ap (λ (k : ℕ). (little_bytes n k ++ flat_map spell xs) ++ rest) (sym count),
          record { few = omega arith; fit = r.1.fit; rise = r.1.rise },
        )

    table_again : (xs : List A) (rest : List ℕ) → IsTableOf most before FitsSo xs → table_at n most read before (table_text n spell xs ++ rest) ≡ Some (xs, rest)
    unfolding table_at
    table_again xs rest table =
        let size = length xs in
        let few = table.few in
        let number = (number_reads n).again size (flat_map spell xs ++ rest) (omega arith) in
        let fits : ltb most size ≡ false = le-ltb _ _ few in
        ap (table_at n most read before) (append_assoc (little_bytes n size) (flat_map spell xs) rest)
        ∙ rw (number, fits, entries_again None size xs rest (record { count = refl; fit = table.fit; rise = table.rise })) refl

    pub table_reads : IsReader (table_at n most read before) (table_text n spell) (IsTableOf most before FitsSo)
    table_reads = record { takes = table_takes; again = table_again }
