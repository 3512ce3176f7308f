-- Who has to have ended, noted record by record.
use Rattle.std.proofs.Common.{◌≡◌, ⊎_elim, ◌⊎◌, inl, inr, ◌+◌, ◌<◌, ◌≤◌, ℕ, zero, suc, List, [], ◌∷◌, ◌++◌, Bool, true, false, cond, Option, None, Some, refl, sym, ap, subst, ◌∙◌, map, take, arith, Result, Ok, Err}
use Rattle.std.specs.Prelude.{◌==◌, IsSomeAnd, OnOk, filter, is_some, slice_get}
use Rattle.std.specs.BTreeMap.{get, is_at}
use Rattle.std.specs.Ordering.{nat_cmp}
use Rattle.std.proofs.lemmas.Bool.{cases_Bool, eq-eqb, eqb-true, ne_eqb}
use Rattle.shore_model.specs.declared.log_records.LogRecord.{LogRecord}
use Rattle.shore_model.specs.declared.log_records.LogTxn.{LogTxn}
use Rattle.laws_lives.specs.Views.{IsAmong}
use Rattle.shore_analysis.specs.declared.kept_passes.KeptPass.{KeptPass}
use Rattle.shore_analysis.specs.KeptMeant.{names_cut_off, to_have_ended, txns_cut_off}
use Rattle.shore_analysis.specs.KeptPasses.{KnowsAwaited, noted_all}
use Rattle.shore_analysis.specs.Passes.{noted}
use Rattle.shore_analysis.proofs.KnownNext.{key_cases}

-- ---- what holds of a result

pub on_ok : {A B : Type 0} {P Q : Type 0} (r : Result A B) → (P → Q) → OnOk r P → OnOk r Q
on_ok (Ok x) f p = f p
on_ok (Err x) f p = tt

pub on_three : {A B : Type 0} {P Q R S : Type 0} (r : Result A B) → (P → Q → R → S) → OnOk r P → OnOk r Q → OnOk r R → OnOk r S
on_three (Ok x) f p q s = f p q s
on_three (Err x) f p q s = tt

-- what holds of each holds of all
pub all_ok : {A B : Type 0} (P : ℕ → Type 0) (r : Result A B) → ((t : ℕ) → OnOk r (P t)) → OnOk r ((t : ℕ) → P t)
all_ok P (Ok x) h = h
all_ok P (Err x) h = tt

pub some_ok : {A B : Type 0} (P : ℕ → Type 0) (r : Result A B) → ((t : ℕ) → 0 < t → OnOk r (P t)) → OnOk r ((t : ℕ) → 0 < t → P t)
some_ok P (Ok x) h = h
some_ok P (Err x) h = tt

-- ---- one transaction

keeps : (o : Option ℕ) (n : ℕ) → o ≡ noted false n o
keeps None n = refl
keeps (Some x) n = refl

pub txn_noted : (u t n : ℕ) (old : ℕ → Option ℕ) → old u ≡ None → cond (is_at (nat_cmp u) t) (Some n) (old t) ≡ noted (u == t) n (old t)
txn_noted u t n old absent = ⊎_elim
    (λ own. ap (λ b. cond b (Some n) (old t)) own.0 ∙ sym (λ i. noted (eq-eqb u t own.1 i) n ((ap old (sym own.1) ∙ absent) i)))
    (λ other. ap (λ b. cond b (Some n) (old t)) other.0 ∙ keeps (old t) n ∙ sym (ap (λ b. noted b n (old t)) (ne_eqb u t other.1)))
    (key_cases u t)

pub known_noted : (u t n : ℕ) (old : ℕ → Option ℕ) → is_some (old u) ≡ true → old t ≡ noted (u == t) n (old t)
known_noted u t n old known = ⊎_elim
    (λ own. stays (old t) (u == t) (ap (λ v. is_some (old v)) (sym own.1) ∙ known))
    (λ other. keeps (old t) n ∙ sym (ap (λ b. noted b n (old t)) (ne_eqb u t other.1)))
    (key_cases u t)
  where
    stays : (o : Option ℕ) (b : Bool) → is_some o ≡ true → o ≡ noted b n o
    stays None b h = cc
    stays (Some x) b h = refl

-- ---- several

pub noted-append : (xs ys : List ℕ) (n t : ℕ) (o : Option ℕ) → noted_all (xs ++ ys) n t o ≡ noted_all ys n t (noted_all xs n t o)
noted-append [] ys n t o = refl
noted-append (x ∷ xs) ys n t o = noted-append xs ys n t (noted (x == t) n o)

-- one entry more
pub noted-entry : (cut : ℕ) (e : LogTxn) (es : List LogTxn) (n t : ℕ) (o : Option ℕ)
    → noted_all (txns_cut_off cut (e ∷ es)) n t o ≡ noted_all (txns_cut_off cut es) n t (cond (names_cut_off cut e) (noted (e.txn == t) n o) o)
noted-entry cut e es n t o = by (names_cut_off cut e)
  where
    by : (b : Bool) → noted_all (map (λ x. x.txn) (cond b (e ∷ filter (names_cut_off cut) es) (filter (names_cut_off cut) es))) n t o
        ≡ noted_all (txns_cut_off cut es) n t (cond b (noted (e.txn == t) n o) o)
    by true = refl
    by false = refl

noted_keeps : (ts : List ℕ) (n t m : ℕ) → noted_all ts n t (Some m) ≡ Some m
noted_keeps [] n t m = refl
noted_keeps (u ∷ us) n t m = noted_keeps us n t m

some_is : (a b : ℕ) → ◌≡◌ {A = Option ℕ} (Some a) (Some b) → a ≡ b
some_is a b h = ap value h
  where
    value : Option ℕ → ℕ
    value None = a
    value (Some x) = x

noted_found : (ts : List ℕ) (n t m : ℕ) → noted_all ts n t None ≡ Some m → (m ≡ n) × IsAmong t ts
noted_found [] n t m h = absurd (let gone : ◌≡◌ {A = Option ℕ} None (Some m) = h in cc)
noted_found (u ∷ us) n t m h = ⊎_elim
    (λ own. (sym (some_is n m (sym (noted_keeps us n t n) ∙ sym (ap (λ b. noted_all us n t (noted b n None)) own) ∙ h)), inl (eqb-true u t own)))
    (λ other. let later = noted_found us n t m (sym (ap (λ b. noted_all us n t (noted b n None)) other) ∙ h) in (later.0, inr later.1))
    (cases_Bool (u == t))

noted_some : (ts : List ℕ) (n t : ℕ) → IsAmong t ts → noted_all ts n t None ≡ Some n
noted_some [] n t among = absurd among
noted_some (u ∷ us) n t (inl own) = ap (λ b. noted_all us n t (noted b n None)) (eq-eqb u t own) ∙ noted_keeps us n t n
noted_some (u ∷ us) n t (inr later) = ⊎_elim
    (λ own. ap (λ b. noted_all us n t (noted b n None)) own ∙ noted_keeps us n t n)
    (λ other. ap (λ b. noted_all us n t (noted b n None)) other ∙ noted_some us n t later)
    (cases_Bool (u == t))

pub none_awaited : (cut : ℕ) (kept : List LogRecord) (pass : KeptPass) → ((t : ℕ) → get nat_cmp pass.awaited t ≡ None) → KnowsAwaited cut kept 0 pass
none_awaited cut kept pass none = record {
  found = λ t m here. absurd (let gone : ◌≡◌ {A = Option ℕ} None (Some m) = sym (none t) ∙ here in cc);
  every = λ i r t lt. absurd (omega (arith, lt));
}

module _ (cut : ℕ) (kept : List LogRecord) (i : ℕ) (r : LogRecord) (at : slice_get kept i ≡ Some r) (old new : KeptPass) (waits : KnowsAwaited cut kept i old)
    (awaited : (t : ℕ) → get nat_cmp new.awaited t ≡ noted_all (to_have_ended cut (take i kept) r) (cut + 1 + i) t (get nat_cmp old.awaited t)) where
  abbrev ts : List ℕ
  ts = to_have_ended cut (take i kept) r

  abbrev n : ℕ
  n = cut + 1 + i

  pub awaited_next : KnowsAwaited cut kept (i + 1) new
  awaited_next = record {
    found = λ t m here. by_old t m (get nat_cmp old.awaited t) refl here;
    every = λ j q t lt there among. ⊎_elim
        (λ before. kept_of j t (get nat_cmp old.awaited t) refl (waits.every j q t before there among))
        (λ now. own_of j q t now there among (get nat_cmp old.awaited t) refl)
        (cases_last j lt);
  }
    where
      cases_last : (j : ℕ) → j < i + 1 → (j < i) ⊎ (j ≡ i)
      cases_last j lt = ⊎_elim (λ less. inl less) (λ more. inr (omega arith)) (less_or j i)
        where
          less_or : (a b : ℕ) → (a < b) ⊎ (b ≤ a)
          less_or a zero = inr (omega arith)
          less_or zero (suc b) = inl (omega arith)
          less_or (suc a) (suc b) = ⊎_elim (λ l. inl (omega arith)) (λ g. inr (omega arith)) (less_or a b)

      by_old : (t m : ℕ) (o : Option ℕ) → get nat_cmp old.awaited t ≡ o → get nat_cmp new.awaited t ≡ Some m
          → (j : ℕ) × (j < i + 1) × (m ≡ cut + 1 + j) × IsSomeAnd (slice_get kept j) (λ x. IsAmong t (to_have_ended cut (take j kept) x))
      by_old t m None was here =
          let now = noted_found ts n t m (sym (awaited t ∙ ap (noted_all ts n t) was) ∙ here) in
          (i, omega arith, now.0, subst (λ o. IsSomeAnd o (λ x. IsAmong t (to_have_ended cut (take i kept) x))) (sym at) now.1)
      by_old t m (Some k) was here =
          let same : k ≡ m = some_is k m (sym (noted_keeps ts n t k) ∙ ap (noted_all ts n t) (sym was) ∙ sym (awaited t) ∙ here) in
          let before = waits.found t m (was ∙ ap (λ x. Some x) same) in
          let lt = before.1 in
          (before.0, omega (arith, lt), before.2, before.3)

      kept_of : (j t : ℕ) (o : Option ℕ) → get nat_cmp old.awaited t ≡ o → IsSomeAnd (get nat_cmp old.awaited t) (λ m. m ≤ cut + 1 + j) → IsSomeAnd (get nat_cmp new.awaited t) (λ m. m ≤ cut + 1 + j)
      kept_of j t None was h = absurd (subst (λ o. IsSomeAnd o (λ m. m ≤ cut + 1 + j)) was h)
      kept_of j t (Some k) was h =
          subst (λ o. IsSomeAnd o (λ m. m ≤ cut + 1 + j)) (sym (awaited t ∙ ap (noted_all ts n t) was ∙ noted_keeps ts n t k)) (subst (λ o. IsSomeAnd o (λ m. m ≤ cut + 1 + j)) was h)

      own_of : (j : ℕ) (q : LogRecord) (t : ℕ) → j ≡ i → slice_get kept j ≡ Some q → IsAmong t (to_have_ended cut (take j kept) q) → (o : Option ℕ) → get nat_cmp old.awaited t ≡ o
          → IsSomeAnd (get nat_cmp new.awaited t) (λ m. m ≤ cut + 1 + j)
      own_of j q t now there among None was =
          let same : q ≡ r = record_is (sym there ∙ ap (slice_get kept) now ∙ at) in
          let its : IsAmong t ts = subst (λ x. IsAmong t (to_have_ended cut (take i kept) x)) same (subst (λ k. IsAmong t (to_have_ended cut (take k kept) q)) now among) in
          subst (λ o. IsSomeAnd o (λ m. m ≤ cut + 1 + j)) (sym (awaited t ∙ ap (noted_all ts n t) was ∙ noted_some ts n t its)) (omega (arith, now))
        where
          record_is : {a b : LogRecord} → ◌≡◌ {A = Option LogRecord} (Some a) (Some b) → a ≡ b
          record_is {a = a} {b = b} h = ap (value a) h
            where
              value : LogRecord → Option LogRecord → LogRecord
              value d None = d
              value d (Some x) = x
      own_of j q t now there among (Some k) was =
          let before = waits.found t k was in
          let lt = before.1 in
          let number = before.2 in
          subst (λ o. IsSomeAnd o (λ m. m ≤ cut + 1 + j)) (sym (awaited t ∙ ap (noted_all ts n t) was ∙ noted_keeps ts n t k)) (omega (arith, lt, number, now))

-- the same, by the number of the record
pub awaited_by : (cut : ℕ) (kept : List LogRecord) (i : ℕ) (r : LogRecord) → slice_get kept i ≡ Some r → (old new : KeptPass) → KnowsAwaited cut kept i old → (n : ℕ) → n ≡ cut + 1 + i
    → ((t : ℕ) → get nat_cmp new.awaited t ≡ noted_all (to_have_ended cut (take i kept) r) n t (get nat_cmp old.awaited t)) → KnowsAwaited cut kept (i + 1) new
awaited_by cut kept i r at old new waits n is h =
    awaited_next cut kept i r at old new waits (subst (λ k. (t : ℕ) → get nat_cmp new.awaited t ≡ noted_all (to_have_ended cut (take i kept) r) k t (get nat_cmp old.awaited t)) is h)

-- what is known of it does not speak of the rest
pub awaited_moved : (cut : ℕ) (kept : List LogRecord) (places : ℕ) (old new : KeptPass) → new.awaited ≡ old.awaited → KnowsAwaited cut kept places old → KnowsAwaited cut kept places new
awaited_moved cut kept places old new same waits = record {
  found = λ t m here. waits.found t m (ap (λ a. get nat_cmp a t) (sym same) ∙ here);
  every = λ i r t lt at among. subst (λ a. IsSomeAnd (get nat_cmp a t) (λ m. m ≤ cut + 1 + i)) (sym same) (waits.every i r t lt at among);
}
