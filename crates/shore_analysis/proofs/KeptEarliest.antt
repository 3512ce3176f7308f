-- The least number in a map of those whose key passes a test.
use Rattle.std.proofs.Common.{◌≡◌, ⊎_elim, ◌⊎◌, inl, inr, ◌≤◌, ℕ, List, [], ◌∷◌, Bool, true, false, cond, Option, None, Some, refl, sym, ap, subst, ◌∙◌, arith}
use Rattle.std.specs.Prelude.{IfNone, IfSome, nat_lt}
use Rattle.std.specs.List.{AllByRecursion}
use Rattle.std.specs.Ordering.{nat_cmp}
use Rattle.std.specs.Cmp.{nat_cmp_total}
use Rattle.std.specs.BTreeMap.{BTreeMap, IsOrdered, get, is_at}
use Rattle.std.specs.Map.{lookup}
use Rattle.std.proofs.lemmas.Bool.{cases_Bool, lt-ltb, le-ltb, ltb-true, ltb-false, true≢false}
use Rattle.std.proofs.lemmas.List.Elements.{recursion_from_All}
use Rattle.shore_analysis.specs.KeptPasses.{IsEarlier}
use Rattle.shore_analysis.proofs.KnownNext.{key_cases}
use Rattle.shore_analysis.proofs.Listed.{all_found}

abbrev pub lesser_of : Option ℕ → ℕ → ℕ
lesser_of None n = n
lesser_of (Some m) n = cond (nat_lt m n) m n

pub lesser_is : (o : Option ℕ) (n r : ℕ) → IsEarlier o n r → r ≡ lesser_of o n
lesser_is None n r h = h
lesser_is (Some m) n r h = ⊎_elim
    (λ less. less.1 ∙ sym (ap (λ b. cond b m n) (lt-ltb m n less.0)))
    (λ more. more.1 ∙ sym (ap (λ b. cond b m n) (le-ltb m n more.0))) h

lesser_low : (o : Option ℕ) (n m : ℕ) → m ≤ lesser_of o n → IfSome o (λ k. m ≤ k) × (m ≤ n)
lesser_low None n m h = (tt, h)
lesser_low (Some k) n m h = ⊎_elim
    (λ less. let lt = ltb-true k n less in let le : m ≤ k = subst (λ x. m ≤ x) (ap (λ b. cond b k n) less) h in (le, omega (arith, le, lt)))
    (λ more. let ge = ltb-false k n more in let le : m ≤ n = subst (λ x. m ≤ x) (ap (λ b. cond b k n) more) h in (omega (arith, le, ge), le))
    (cases_Bool (nat_lt k n))

lesser_one : (o : Option ℕ) (n : ℕ) → (Some (lesser_of o n) ≡ o) ⊎ (lesser_of o n ≡ n)
lesser_one None n = inr refl
lesser_one (Some k) n = ⊎_elim
    (λ less. inl (ap (λ b. Some (cond b k n)) less))
    (λ more. inr (ap (λ b. cond b k n) more))
    (cases_Bool (nat_lt k n))

module _ (passes : ℕ → Bool) where
  -- the least number of those entries, and of the one known already
  abbrev pub least_from : List (ℕ × ℕ) → Option ℕ → Option ℕ
  least_from [] known = known
  least_from (e ∷ es) known = least_from es (cond (passes e.0) (Some (lesser_of known e.1)) known)

  none_passes : (es : List (ℕ × ℕ)) (known : Option ℕ) → least_from es known ≡ None → (known ≡ None) × AllByRecursion (λ e. passes e.0 ≡ false) es
  none_passes [] known h = (h, tt)
  none_passes (e ∷ es) known h =
      let later = none_passes es (cond (passes e.0) (Some (lesser_of known e.1)) known) h in
      ⊎_elim
      (λ yes. absurd (some_none (lesser_of known e.1) (sym (ap (λ b. cond b (Some (lesser_of known e.1)) known) yes) ∙ later.0)))
      (λ no. (sym (ap (λ b. cond b (Some (lesser_of known e.1)) known) no) ∙ later.0, (no, later.1)))
      (cases_Bool (passes e.0))
    where
      some_none : (n : ℕ) → ◌≡◌ {A = Option ℕ} (Some n) None → ⊥
      some_none n h = cc

  least_low : (es : List (ℕ × ℕ)) (known : Option ℕ) (m : ℕ) → least_from es known ≡ Some m → IfSome known (λ k. m ≤ k) × AllByRecursion (λ e. passes e.0 ≡ true → m ≤ e.1) es
  least_low [] known m h = (subst (λ o. IfSome o (λ k. m ≤ k)) (sym h) (omega arith), tt)
  least_low (e ∷ es) known m h =
      let later = least_low es (cond (passes e.0) (Some (lesser_of known e.1)) known) m h in
      ⊎_elim
      (λ yes.
      let low : m ≤ lesser_of known e.1 = subst (λ o. IfSome o (λ k. m ≤ k)) (ap (λ b. cond b (Some (lesser_of known e.1)) known) yes) later.0 in
      let both = lesser_low known e.1 m low in
      (both.0, ((λ is. both.1), later.1)))
      (λ no. (subst (λ o. IfSome o (λ k. m ≤ k)) (ap (λ b. cond b (Some (lesser_of known e.1)) known) no) later.0, ((λ is. absurd (true≢false (sym is ∙ no))), later.1)))
      (cases_Bool (passes e.0))

  least_found : (P : ℕ × ℕ → Type 0) (es : List (ℕ × ℕ)) → AllByRecursion P es → (known : Option ℕ) (m : ℕ) → least_from es known ≡ Some m
      → (known ≡ Some m) ⊎ ((e : ℕ × ℕ) × P e × (passes e.0 ≡ true) × (e.1 ≡ m))
  least_found P [] all known m h = inl h
  least_found P (e ∷ es) all known m h = ⊎_elim
      (λ before. ⊎_elim
      (λ yes.
      let is : Some (lesser_of known e.1) ≡ Some m = sym (ap (λ b. cond b (Some (lesser_of known e.1)) known) yes) ∙ before in
      ⊎_elim (λ old. inl (sym old ∙ is)) (λ own. inr (e, all.0, yes, sym own ∙ number_is (lesser_of known e.1) m is)) (lesser_one known e.1))
      (λ no. inl (sym (ap (λ b. cond b (Some (lesser_of known e.1)) known) no) ∙ before))
      (cases_Bool (passes e.0)))
      (λ later. inr later)
      (least_found P es all.1 (cond (passes e.0) (Some (lesser_of known e.1)) known) m h)
    where
      number_is : (a b : ℕ) → ◌≡◌ {A = Option ℕ} (Some a) (Some b) → a ≡ b
      number_is a b h = ap value h
        where
          value : Option ℕ → ℕ
          value None = a
          value (Some x) = x

-- what holds of each entry holds of what is found
at_lookup : (P : ℕ → ℕ → Type 0) (t k : ℕ) (es : List (ℕ × ℕ)) → AllByRecursion (λ e. P e.0 e.1) es → lookup (is_at (nat_cmp t)) es ≡ Some k → P t k
at_lookup P t k [] all h = absurd (let gone : ◌≡◌ {A = Option ℕ} None (Some k) = h in cc)
at_lookup P t k (e ∷ es) all h = ⊎_elim
    (λ own.
    let value : e.1 ≡ k = number_is e.1 k (sym (ap (λ b. cond b (Some e.1) (lookup (is_at (nat_cmp t)) es)) own.0) ∙ h) in
    subst (P t) value (subst (λ u. P u e.1) (sym own.1) all.0))
    (λ other. at_lookup P t k es all.1 (sym (ap (λ b. cond b (Some e.1) (lookup (is_at (nat_cmp t)) es)) other.0) ∙ h))
    (key_cases t e.0)
  where
    number_is : (a b : ℕ) → ◌≡◌ {A = Option ℕ} (Some a) (Some b) → a ≡ b
    number_is a b h = ap value h
      where
        value : Option ℕ → ℕ
        value None = a
        value (Some x) = x

-- ---- the least of a map's numbers

module _ (passes : ℕ → Bool) (m : BTreeMap ℕ ℕ) where
  pub none_awaits : (o : Option ℕ) → least_from passes m.entries None ≡ o → IfNone o ((t n : ℕ) → get nat_cmp m t ≡ Some n → passes t ≡ false)
  none_awaits None h = λ t n here. at_lookup (λ t n. passes t ≡ false) t n m.entries (none_passes passes m.entries None h).1 here
  none_awaits (Some n) h = tt

  pub some_awaits : IsOrdered nat_cmp m → (o : Option ℕ) → least_from passes m.entries None ≡ o → IfSome o (λ n. (t : ℕ) × (get nat_cmp m t ≡ Some n) × (passes t ≡ true))
  some_awaits ordered None h = tt
  some_awaits ordered (Some n) h = ⊎_elim
      (λ gone. absurd (let none : ◌≡◌ {A = Option ℕ} None (Some n) = gone in cc))
      (λ found. (found.0.0, found.1 ∙ ap (λ k. Some k) found.3, found.2))
      (least_found passes (λ e. get nat_cmp m e.0 ≡ Some e.1) m.entries (recursion_from_All (λ e. get nat_cmp m e.0 ≡ Some e.1) m.entries (all_found nat_cmp_total m ordered)) None n h)

  pub first_awaits : (o : Option ℕ) → least_from passes m.entries None ≡ o → IfSome o (λ n. (t k : ℕ) → get nat_cmp m t ≡ Some k → passes t ≡ true → n ≤ k)
  first_awaits None h = tt
  first_awaits (Some n) h = λ t k here yes. at_lookup (λ t k. passes t ≡ true → n ≤ k) t k m.entries (least_low passes m.entries None n h).1 here yes
