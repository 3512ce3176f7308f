-- The first kept record that does not mean what it has to: by what is judged at once, and by who has not ended in the end.
use Rattle.std.proofs.Common.{◌≡◌, ⊎_elim, ◌⊎◌, inl, inr, ◌+◌, ◌-◌, ◌<◌, ◌≤◌, ℕ, zero, suc, List, [], ◌∷◌, ◌++◌, true, false, Option, None, Some, refl, sym, ap, subst, ◌∙◌, length, take, take_all, take-append-drop, drop, arith, Result, Ok, Err}
use Rattle.std.specs.Prelude.{IfErr, IfNone, IfOk, IfSome, IsSomeAnd, is_some, slice_get}
use Rattle.std.specs.List.{AllByRecursion}
use Rattle.std.specs.BTreeMap.{get}
use Rattle.std.specs.Ordering.{nat_cmp}
use Rattle.std.proofs.lemmas.Bool.{true≢false}
use Rattle.std.proofs.lemmas.List.{length-drop}
use Rattle.std.proofs.lemmas.Option.{slice_get_within}
use Rattle.shore_types.specs.declared.layout.Geometry.{Geometry}
use Rattle.shore_model.specs.declared.log_records.LogRecord.{LogRecord}
use Rattle.laws_lives.specs.Views.{IsAmong}
use Rattle.laws_lives.proofs.Redo.{take_next}
use Rattle.laws_checkpoints.specs.KeptLogs.{IsKeptUnended}
use Rattle.shore_analysis.specs.declared.analysis.NotAnalysed.{NotAnalysed}
use Rattle.shore_analysis.specs.declared.analysis.NotAnalysed.TheVariants.{Memory, Unlawful}
use Rattle.shore_analysis.specs.declared.kept_passes.KeptPass.{KeptPass}
use Rattle.shore_analysis.specs.KeptMeant.{AreMeantKept, HaveEnded, IsFirstUnmeantKept, IsKeptCrowded, IsMeantNow, MayBeKept, to_have_ended}
use Rattle.shore_analysis.specs.KeptPasses.{AreMeantUpTo, IsFirstOf, IsFirstRefused, KnowsAwaited, KnowsEnds, KnowsKept}
use Rattle.shore_analysis.specs.Padded.{padded}
use Rattle.shore_analysis.proofs.Answered.{one_or_none}
use Rattle.shore_analysis.proofs.KeptStandings.{running_is}
use Rattle.shore_analysis.proofs.KeptSteps.{running_by}
use Rattle.shore_analysis.proofs.Padding.{last_padded, over_padded}

-- ---- who has not ended by what is kept

module _ (cut : ℕ) (kept : List LogRecord) (pass : KeptPass) (ends : KnowsEnds cut kept pass) (t : ℕ) where
  pub unended_runs : IsKeptUnended cut kept t → is_some (get nat_cmp pass.running t) ≡ true
  unended_runs u = ends.running t u.is_one ∙ running_by t u.is_one (padded cut kept) (subst (λ n. 0 < n) (sym (last_padded t u.is_one cut kept)) u.known) (over_padded t u.is_one cut kept ∙ u.not_over)

  pub runs_unended : 0 < t → is_some (get nat_cmp pass.running t) ≡ true → IsKeptUnended cut kept t
  runs_unended one here =
      let runs = running_is t (padded cut kept) (sym (ends.running t one) ∙ here) in
      record { is_one = one; known = subst (λ n. 0 < n) (last_padded t one cut kept) runs.known; not_over = sym (over_padded t one cut kept) ∙ runs.runs }

pub each_among : (P : ℕ → Type 0) (ts : List ℕ) → ((t : ℕ) → IsAmong t ts → P t) → AllByRecursion P ts
each_among P [] h = tt
each_among P (t ∷ ts) h = (h t (inl refl), each_among P ts (λ u among. h u (inr among)))

among_each : (P : ℕ → Type 0) (ts : List ℕ) → AllByRecursion P ts → (t : ℕ) → IsAmong t ts → P t
among_each P [] h t among = absurd among
among_each P (u ∷ us) h t (inl is) = subst P is h.0
among_each P (u ∷ us) h t (inr later) = among_each P us h.1 t later

module _ (g : Geometry) (cut : ℕ) (kept : List LogRecord) (pass : KeptPass) (ends : KnowsEnds cut kept pass) (places : ℕ) (waits : KnowsAwaited cut kept places pass) where
  -- no awaited one before this number runs
  abbrev NoneBefore : ℕ → Type 0
  NoneBefore k = (t m : ℕ) → get nat_cmp pass.awaited t ≡ Some m → is_some (get nat_cmp pass.running t) ≡ true → k ≤ m

  -- so all have ended that a record before it takes so
  pub have_ended : (k : ℕ) → NoneBefore k → (i : ℕ) (r : LogRecord) → i < places → cut + 1 + i < k → slice_get kept i ≡ Some r → HaveEnded cut kept (to_have_ended cut (take i kept) r)
  have_ended k none i r lt below at = each_among (λ t. IsKeptUnended cut kept t → ⊥) (to_have_ended cut (take i kept) r) (λ t among u.
      by t u (get nat_cmp pass.awaited t) refl (waits.every i r t lt at among))
    where
      by : (t : ℕ) → IsKeptUnended cut kept t → (o : Option ℕ) → get nat_cmp pass.awaited t ≡ o → IsSomeAnd o (λ m. m ≤ cut + 1 + i) → ⊥
      by t u None here h = h
      by t u (Some m) here h = let le = none t m here (unended_runs cut kept pass ends t u) in omega (arith, le, h, below)

  -- one that runs is awaited by a record that may not be there
  pub awaited_unmeant : (t m : ℕ) → 0 < t → get nat_cmp pass.awaited t ≡ Some m → is_some (get nat_cmp pass.running t) ≡ true
      → (cut < m) × IsSomeAnd (slice_get kept (m - (cut + 1))) (λ r. MayBeKept g cut kept (m - (cut + 1)) r → ⊥)
  awaited_unmeant t m one here runs =
      let found = waits.found t m here in
      let number = found.2 in
      let place : found.0 ≡ m - (cut + 1) = omega (arith, number) in (
        omega (arith, number),
        subst (λ i. IsSomeAnd (slice_get kept i) (λ r. MayBeKept g cut kept i r → ⊥)) place (by (slice_get kept found.0) found.0 found.3),
      )
    where
      by : (o : Option LogRecord) (i : ℕ) → IsSomeAnd o (λ r. IsAmong t (to_have_ended cut (take i kept) r)) → IsSomeAnd o (λ r. MayBeKept g cut kept i r → ⊥)
      by None i h = h
      by (Some r) i h = λ may. among_each (λ u. IsKeptUnended cut kept u → ⊥) (to_have_ended cut (take i kept) r) may.ended t h (runs_unended cut kept pass ends t one runs)

  -- one that runs is a transaction's
  one_runs : (t : ℕ) → is_some (get nat_cmp pass.running t) ≡ true → 0 < t
  one_runs t here = ⊎_elim
      (λ none. absurd (true≢false (sym here ∙ ap is_some (ap (get nat_cmp pass.running) none ∙ ends.nobody))))
      (λ one. one) (one_or_none t)

  abbrev IsAwaited : ℕ → Type 0
  IsAwaited m = (t : ℕ) × (get nat_cmp pass.awaited t ≡ Some m) × (is_some (get nat_cmp pass.running t) ≡ true)

  -- all that is judged at once is as it has to be: then the first awaited one that runs tells the first record that may not be there
  pub by_awaited : AreMeantUpTo g cut kept (length kept) → (m : ℕ) → IsAwaited m → NoneBefore m → places ≡ length kept → IsFirstUnmeantKept g cut kept m
  by_awaited meant m waited first all =
      let bad = awaited_unmeant waited.0 m (one_runs waited.0 waited.2) waited.1 waited.2 in
      record {
        behind = bad.0;
        before = λ n r lt at.
            let within = slice_get_within kept n r at in
            let both = meant n r within at in
            record { now = both.0; few = both.1; ended = have_ended m first n r (subst (λ k. n < k) (sym all) within) lt at };
        here = bad.1;
      }

  pub by_none : AreMeantUpTo g cut kept (length kept) → ((t m : ℕ) → get nat_cmp pass.awaited t ≡ Some m → is_some (get nat_cmp pass.running t) ≡ false) → places ≡ length kept
      → AreMeantKept g cut kept
  by_none meant none all n r at =
      let within = slice_get_within kept n r at in
      let both = meant n r within at in
      record {
        now = both.0;
        few = both.1;
        ended = have_ended (cut + 2 + n) (λ t m here runs. absurd (true≢false (sym runs ∙ none t m here))) n r (subst (λ k. n < k) (sym all) within) (omega arith) at;
      }

  -- the record of this number is the first that is refused at once, and no record before it awaits one that runs
  module _ (place : ℕ) (meant : AreMeantUpTo g cut kept place)
      (bad : IsSomeAnd (slice_get kept place) (λ r. IsMeantNow g cut (take place kept) r × (IsKeptCrowded cut (take place kept ++ r ∷ []) → ⊥) → ⊥)) (noted : place ≤ places) where
    each_before : (k : ℕ) → k ≤ cut + 1 + place → NoneBefore k → (n : ℕ) (r : LogRecord) → cut + 1 + n < k → slice_get kept n ≡ Some r → MayBeKept g cut kept n r
    each_before k le first n r lt at =
        let both = meant n r (omega (arith, le, lt)) at in
        record { now = both.0; few = both.1; ended = have_ended k first n r (omega (arith, le, lt, noted)) lt at }

    pub by_refused : (number : ℕ) → number ≡ cut + 1 + place → NoneBefore number → IsFirstUnmeantKept g cut kept number
    by_refused number is first =
        let at : place ≡ number - (cut + 1) = omega (arith, is) in
        record {
          behind = omega (arith, is);
          before = each_before number (omega (arith, is)) first;
          here = subst (λ i. IsSomeAnd (slice_get kept i) (λ r. MayBeKept g cut kept i r → ⊥)) at (may_not (slice_get kept place) bad);
        }
      where
        may_not : (o : Option LogRecord) → IsSomeAnd o (λ r. IsMeantNow g cut (take place kept) r × (IsKeptCrowded cut (take place kept ++ r ∷ []) → ⊥) → ⊥)
            → IsSomeAnd o (λ r. MayBeKept g cut kept place r → ⊥)
        may_not None h = h
        may_not (Some r) h = λ may. h (may.now, may.few)

    pub by_earlier : (number m : ℕ) → number ≡ cut + 1 + place → m < number → IsAwaited m → NoneBefore m → IsFirstUnmeantKept g cut kept m
    by_earlier number m is less waited first =
        let wrong = awaited_unmeant waited.0 m (one_runs waited.0 waited.2) waited.1 waited.2 in
        record { behind = wrong.0; before = each_before m (omega (arith, is, less)) first; here = wrong.1 }

-- ---- both together

module _ (g : Geometry) (cut : ℕ) (kept : List LogRecord) (pass : KeptPass) (ends : KnowsEnds cut kept pass) (refused awaited : Option ℕ)
    (all : IfNone refused (KnowsKept g cut kept pass × AreMeantUpTo g cut kept (length kept))) (first : IfSome refused (IsFirstRefused g cut kept pass))
    (waits : IfNone refused (KnowsAwaited cut kept (length kept) pass))
    (none : IfNone awaited ((t m : ℕ) → get nat_cmp pass.awaited t ≡ Some m → is_some (get nat_cmp pass.running t) ≡ false))
    (some : IfSome awaited (λ m. (t : ℕ) × (get nat_cmp pass.awaited t ≡ Some m) × (is_some (get nat_cmp pass.running t) ≡ true)))
    (least : IfSome awaited (λ m. (t k : ℕ) → get nat_cmp pass.awaited t ≡ Some k → is_some (get nat_cmp pass.running t) ≡ true → m ≤ k)) where
  if_none : {P : Type 0} (o : Option ℕ) → o ≡ None → IfNone o P → P
  if_none None e h = h
  if_none (Some x) e h = cc

  if_some : (P : ℕ → Type 0) (o : Option ℕ) (x : ℕ) → o ≡ Some x → IfSome o P → P x
  if_some P o x e h = subst (λ o. IfSome o P) e h

  -- none is awaited that runs below a number
  quiet : awaited ≡ None → (k t m : ℕ) → get nat_cmp pass.awaited t ≡ Some m → is_some (get nat_cmp pass.running t) ≡ true → k ≤ m
  quiet is k t m here runs = absurd (true≢false (sym runs ∙ if_none awaited is none t m here))

  pub unlawful : (number : ℕ) → IsFirstOf refused awaited (Some number) → IsFirstUnmeantKept g cut kept number
  unlawful number h = by refused awaited refl refl h
    where
      by : (o p : Option ℕ) → refused ≡ o → awaited ≡ p → IsFirstOf o p (Some number) → IsFirstUnmeantKept g cut kept number
      by None p is that h =
          let told : awaited ≡ Some number = that ∙ sym h in
          by_awaited g cut kept pass ends (length kept) (if_none refused is waits) (if_none refused is all).1 number
          (if_some (λ m. (t : ℕ) × (get nat_cmp pass.awaited t ≡ Some m) × (is_some (get nat_cmp pass.running t) ≡ true)) awaited number told some)
          (if_some (λ m. (t k : ℕ) → get nat_cmp pass.awaited t ≡ Some k → is_some (get nat_cmp pass.running t) ≡ true → m ≤ k) awaited number told least) refl
      by (Some n) None is that h =
          let f = if_some (IsFirstRefused g cut kept pass) refused n is first in
          by_refused g cut kept pass ends f.places f.awaited f.place f.before f.here f.up_to number (h ∙ f.number_is) (λ t m here runs. quiet that number t m here runs)
      by (Some n) (Some m) is that h =
          let f = if_some (IsFirstRefused g cut kept pass) refused n is first in
          let one = if_some (λ m. (t : ℕ) × (get nat_cmp pass.awaited t ≡ Some m) × (is_some (get nat_cmp pass.running t) ≡ true)) awaited m that some in
          let low = if_some (λ m. (t k : ℕ) → get nat_cmp pass.awaited t ≡ Some k → is_some (get nat_cmp pass.running t) ≡ true → m ≤ k) awaited m that least in
          ⊎_elim
          (λ earlier.
          let lt = earlier.0 in
          subst (IsFirstUnmeantKept g cut kept) (sym earlier.1) (by_earlier g cut kept pass ends f.places f.awaited f.place f.before f.here f.up_to n m f.number_is lt one low))
          (λ later.
          let le = later.0 in
          by_refused g cut kept pass ends f.places f.awaited f.place f.before f.here f.up_to number (later.1 ∙ f.number_is)
          (λ t k here runs. let most = low t k here runs in let same = later.1 in omega (arith, le, most, same)))
          h

  pub all_meant : IsFirstOf refused awaited None → AreMeantKept g cut kept
  all_meant h = by refused awaited refl refl h
    where
      by : (o p : Option ℕ) → refused ≡ o → awaited ≡ p → IsFirstOf o p None → AreMeantKept g cut kept
      by None p is that h = by_none g cut kept pass ends (length kept) (if_none refused is waits) (if_none refused is all).1 (if_none awaited (that ∙ sym h) none) refl
      by (Some n) p is that h = absurd h

  -- so the pass knows all of what is kept
  pub known : IsFirstOf refused awaited None → KnowsKept g cut kept pass
  known h = by refused refl h
    where
      by : (o : Option ℕ) → refused ≡ o → IsFirstOf o awaited None → KnowsKept g cut kept pass
      by None is h = (if_none refused is all).0
      by (Some n) is h = absurd h

  -- .. as an answer tells it
  pub told_none : (o : Option ℕ) → IsFirstOf refused awaited o → IfNone o (AreMeantKept g cut kept)
  told_none None h = all_meant h
  told_none (Some n) h = tt

  pub told_known : (o : Option ℕ) → IsFirstOf refused awaited o → IfNone o (KnowsKept g cut kept pass)
  told_known None h = known h
  told_known (Some n) h = tt

  pub told_some : (o : Option ℕ) → IsFirstOf refused awaited o → IfSome o (IsFirstUnmeantKept g cut kept)
  told_some None h = tt
  told_some (Some n) h = unlawful n h

-- ---- results

pub every_ok : {A B : Type 0} {P : Type 0} (r : Result A B) → P → IfOk r (λ x. P)
every_ok (Ok x) p = p
every_ok (Err e) p = tt

pub no_unlawful : {A : Type 0} (Q : ℕ → Type 0) (r : Result A NotAnalysed) → IfErr r (λ e. e ≡ Memory) → IfErr r (λ e. (n : ℕ) → e ≡ Unlawful n → Q n)
no_unlawful Q (Ok x) h = tt
no_unlawful Q (Err e) h = λ n is. absurd (let both : Memory ≡ Unlawful n = sym h ∙ is in cc)

-- ---- those behind a place

pub ends_from : (cut : ℕ) (kept : List LogRecord) (i : ℕ) (pass : KeptPass) → KnowsEnds cut (take i kept ++ take (length kept - i) (drop i kept)) pass → KnowsEnds cut kept pass
ends_from cut kept i pass ends =
    let long = length-drop i kept in
    subst (λ xs. KnowsEnds cut xs pass) (ap (λ ys. take i kept ++ ys) (take_all (length kept - i) (drop i kept) (omega (arith, long))) ∙ take-append-drop i kept) ends

pub ends_behind : (cut : ℕ) (kept : List LogRecord) (i : ℕ) (r : LogRecord) → slice_get kept i ≡ Some r → (pass : KeptPass)
    → KnowsEnds cut ((take i kept ++ r ∷ []) ++ take (length kept - (i + 1)) (drop (i + 1) kept)) pass → KnowsEnds cut kept pass
ends_behind cut kept i r at pass ends =
    ends_from cut kept (i + 1) pass (subst (λ xs. KnowsEnds cut (xs ++ take (length kept - (i + 1)) (drop (i + 1) kept)) pass) (sym (take_next kept i r at)) ends)

-- ---- one place more

pub up_to_next : (g : Geometry) (cut : ℕ) (kept : List LogRecord) (i : ℕ) (r : LogRecord) → slice_get kept i ≡ Some r → AreMeantUpTo g cut kept i → IsMeantNow g cut (take i kept) r
    → (IsKeptCrowded cut (take i kept ++ r ∷ []) → ⊥) → AreMeantUpTo g cut kept (i + 1)
up_to_next g cut kept i r at before m few n q lt there = ⊎_elim
    (λ less. before n q less there)
    (λ same.
    let is : q ≡ r = record_is q r (sym there ∙ ap (slice_get kept) same ∙ at) in
    subst (λ k. IsMeantNow g cut (take k kept) q × (IsKeptCrowded cut (take k kept ++ q ∷ []) → ⊥)) (sym same)
    (subst (λ x. IsMeantNow g cut (take i kept) x × (IsKeptCrowded cut (take i kept ++ x ∷ []) → ⊥)) (sym is) (m, few)))
    (last n i lt)
  where
    last : (a b : ℕ) → a < b + 1 → (a < b) ⊎ (a ≡ b)
    last zero zero lt = inr refl
    last zero (suc b) lt = inl (omega arith)
    last (suc a) zero lt = absurd (omega arith)
    last (suc a) (suc b) lt = ⊎_elim (λ less. inl (omega arith)) (λ same. inr (ap suc same)) (last a b (omega arith))

    record_is : (a b : LogRecord) → ◌≡◌ {A = Option LogRecord} (Some a) (Some b) → a ≡ b
    record_is a b h = ap value h
      where
        value : Option LogRecord → LogRecord
        value None = a
        value (Some x) = x
