-- How a record stands to those of its transaction before it, by what a pass knows of these.
use Rattle.std.proofs.Common.{◌≡◌, ⊎_elim, ◌⊎◌, inl, inr, ◌<◌, ◌≤◌, ℕ, zero, suc, List, [], ◌∷◌, ◌++◌, Bool, true, false, cond, Option, None, Some, refl, sym, ap, subst, ◌∙◌, arith}
use Rattle.std.specs.Prelude.{◌==◌, ◌&&◌, IfSome, is_some, nat_le, nat_lt, not}
use Rattle.std.specs.BTreeMap.{get}
use Rattle.std.specs.BTreeSet.{contains}
use Rattle.std.specs.Ordering.{nat_cmp}
use Rattle.std.proofs.lemmas.Bool.{cases_Bool, eq-eqb, eqb-true, le-leb, leb-true, lt-ltb, ltb-true, true≢false}
use Rattle.shore_types.specs.declared.layout.Geometry.{Geometry}
use Rattle.shore_model.specs.declared.log_records.LogRecord.{LogRecord}
use Rattle.shore_model.specs.declared.log_records.LogTxn.{LogTxn}
use Rattle.shore_model.specs.Logs.{first_of, is_over, last_of}
use Rattle.laws_lives.proofs.Booleans.{and_true}
use Rattle.laws_checkpoints.specs.KeptLogs.{kept_last_of, kept_records_of}
use Rattle.laws_checkpoints.specs.MeantBehind.{first_previous}
use Rattle.shore_analysis.specs.declared.kept_passes.KeptPass.{KeptPass}
use Rattle.shore_analysis.specs.declared.kept_passes.Standing.{Standing}
use Rattle.shore_analysis.specs.declared.kept_passes.Standing.TheVariants.{CutOff, Nowhere, Whole}
use Rattle.shore_analysis.specs.declared.progress.Phase.TheVariants.{Free}
use Rattle.shore_analysis.specs.KeptMeant.{IsMeantNow, IsWholeIn, is_cut_off, is_own_cut_off}
use Rattle.shore_analysis.specs.KeptPasses.{IsCutOffEntry, KnowsKept, StandsAs, standing_of_first}
use Rattle.shore_analysis.specs.KeptPasses as passes
use Rattle.shore_analysis.specs.Padded.{padded}
use Rattle.shore_analysis.specs.Passes.{entry_at, entry_of, is_running, progress_by}
use Rattle.shore_analysis.proofs.Answered.{one_or_none}
use Rattle.shore_analysis.proofs.KeptRecords.{first-first, first-later, first_above, none_kept, some_kept}
use Rattle.shore_analysis.proofs.KnownNext.{progress_new, progress_told}
use Rattle.shore_analysis.proofs.Listed.{entry_runs}
use Rattle.shore_analysis.proofs.Padding.{last_padded, over_padded}

both_true : {a b : Bool} → a ≡ true → b ≡ true → (a && b) ≡ true
both_true p q = cc

-- who runs has a record, and has not ended
pub record Running (rs : List LogRecord) (t : ℕ) : Type 0 where
  pub known : 0 < last_of t rs
  pub runs : is_over t rs ≡ false

pub running_is : (t : ℕ) (rs : List LogRecord) → is_running t rs ≡ true → Running rs t
running_is t rs h =
    let both = and_true (nat_lt 0 t && nat_lt 0 (last_of t rs)) (not (is_over t rs)) h in
    let known = and_true (nat_lt 0 t) (nat_lt 0 (last_of t rs)) both.0 in
    record { known = ltb-true 0 (last_of t rs) known.1; runs = not_true (is_over t rs) both.1 }
  where
    not_true : (b : Bool) → not b ≡ true → b ≡ false
    not_true true e = cc
    not_true false e = refl

-- who does not, and has not ended, has none
pub running_not : (t : ℕ) (rs : List LogRecord) → 0 < t → is_running t rs ≡ false → is_over t rs ≡ false → last_of t rs ≡ 0
running_not t rs one none runs = ⊎_elim (λ zero. zero) (λ some. absurd (true≢false (sym (is some) ∙ none))) (one_or_none (last_of t rs))
  where
    is : 0 < last_of t rs → is_running t rs ≡ true
    is some = rw (lt-ltb 0 t one, lt-ltb 0 (last_of t rs) some, runs) refl

module _ (g : Geometry) (cut : ℕ) (before : List LogRecord) (r : LogRecord) (one : 0 < r.txn) (pass : KeptPass) (knows : KnowsKept g cut before pass) where
  abbrev t : ℕ
  t = r.txn

  abbrev log : List LogRecord
  log = padded cut before

  whole_or : IsWholeIn cut before t ⊎ (IsWholeIn cut before t → ⊥)
  whole_or = ⊎_elim (λ whole. inl whole) (λ some. inr (λ whole. omega (arith, some, whole))) (one_or_none (first_previous (kept_records_of cut t before)))

  -- ---- one that has an entry

  module _ (e : LogTxn) (here : get nat_cmp pass.running t ≡ Some e) where
    runs : Running log t
    runs = running_is t log (sym (knows.ends.running t one) ∙ ap is_some here)

    known : 0 < kept_last_of cut t before
    known = subst (λ n. 0 < n) (last_padded t one cut before) runs.known

    some : kept_records_of cut t before ≡ [] → ⊥
    some = some_kept cut before t known

    same : first_previous (kept_records_of cut t (before ++ r ∷ [])) ≡ first_previous (kept_records_of cut t before)
    same = first-later cut before r some

    of_whole : IsWholeIn cut before t → cut < e.first
    of_whole whole =
        let entry = entry_runs t log e (sym (knows.whole t one whole) ∙ here) in
        let first : e.first ≡ first_of t log = ap (λ (x : LogTxn). x.first) entry.is in
        subst (λ n. cut < n) (sym first) (first_above cut before t one some)

    of_cut_off : (IsWholeIn cut before t → ⊥) → (e.first ≡ first_previous (kept_records_of cut t before)) × (e.last ≡ kept_last_of cut t before)
    of_cut_off off = let entry = subst (λ o. IfSome o (λ x. (x.first ≡ first_previous (kept_records_of cut t before)) × (x.last ≡ kept_last_of cut t before))) here (both (get nat_cmp pass.running t) (knows.cut_off t one off)) in entry
      where
        both : (o : Option LogTxn) → IfSome o (IsCutOffEntry cut before t) → IfSome o (λ x. (x.first ≡ first_previous (kept_records_of cut t before)) × (x.last ≡ kept_last_of cut t before))
        both None h = tt
        both (Some x) h = (h.first, h.last)

    pub stands_cut_off : is_cut_off cut e.first ≡ true → StandsAs g cut before r (CutOff e.last)
    stands_cut_off is = ⊎_elim
        (λ whole. let lt = of_whole whole in let le : e.first ≤ cut = leb-true e.first cut (and_true (nat_lt 0 e.first) (nat_le e.first cut) is).1 in absurd (omega (arith, le, lt)))
        (λ off.
        let its = of_cut_off off in
        let below = knows.below t one in
        let some_named : 0 < first_previous (kept_records_of cut t before) = ⊎_elim (λ none. absurd (off none)) (λ h. h) (one_or_none (first_previous (kept_records_of cut t before))) in (
          sym (over_padded t one cut before) ∙ runs.runs,
          record { some = subst (λ n. 0 < n) (sym same) some_named; below = subst (λ n. n ≤ cut) (sym same) below },
          inl (known, its.1),
        ))
        whole_or

    pub stands_whole : is_cut_off cut e.first ≡ false → StandsAs g cut before r (Whole (progress_by e))
    stands_whole is = ⊎_elim
        (λ whole. (progress_told log t e (sym (knows.whole t one whole) ∙ here), same ∙ whole))
        (λ off.
        let first = (of_cut_off off).0 in
        let below = knows.below t one in
        let some_named : 0 < first_previous (kept_records_of cut t before) = ⊎_elim (λ none. absurd (off none)) (λ h. h) (one_or_none (first_previous (kept_records_of cut t before))) in
        let yes : is_cut_off cut e.first ≡ true = ap (is_cut_off cut) first ∙ both_true (lt-ltb 0 (first_previous (kept_records_of cut t before)) some_named) (le-leb (first_previous (kept_records_of cut t before)) cut below) in
        absurd (true≢false (sym yes ∙ is)))
        whole_or

  -- ---- one that has none

  abbrev new : Standing
  new = Whole (record { last = 0; newest = 0; phase = Free })

  module _ (here : get nat_cmp pass.running t ≡ None) where
    pub stands_over : contains nat_cmp pass.over t ≡ true → StandsAs g cut before r Nowhere
    stands_over over m = true≢false (sym over ∙ knows.ends.over t ∙ m.not_over one)

    module _ (running_over : contains nat_cmp pass.over t ≡ false) where
      goes : is_over t log ≡ false
      goes = over_padded t one cut before ∙ sym (knows.ends.over t) ∙ running_over

      not_running : is_running t log ≡ false
      not_running = sym (knows.ends.running t one) ∙ ap is_some here

      none : last_of t log ≡ 0
      none = running_not t log one not_running goes

      none_before : kept_last_of cut t before ≡ 0
      none_before = sym (last_padded t one cut before) ∙ none

      names : first_previous (kept_records_of cut t (before ++ r ∷ [])) ≡ r.previous
      names = first-first cut before r (none_kept cut before t none_before)

      absent : entry_at t log ≡ None
      absent = ap (λ b. cond b (Some (entry_of t log)) None) not_running

      pub stands_first : StandsAs g cut before r (standing_of_first cut r.previous)
      stands_first = ⊎_elim
          (λ zero.
          subst (StandsAs g cut before r) (sym (ap (λ b. cond b new (cond (nat_le r.previous cut) (CutOff r.previous) Nowhere)) zero))
          (progress_new log t one absent goes, names ∙ eqb-true r.previous 0 zero))
          (λ other.
          subst (StandsAs g cut before r) (sym (ap (λ b. cond b new (cond (nat_le r.previous cut) (CutOff r.previous) Nowhere)) other))
          (of_other (one_or_none r.previous) other))
          (cases_Bool (r.previous == 0))
        where
          of_other : ((r.previous ≡ 0) ⊎ (0 < r.previous)) → (r.previous == 0) ≡ false → StandsAs g cut before r (cond (nat_le r.previous cut) (CutOff r.previous) Nowhere)
          of_other (inl none_named) other = absurd (true≢false (sym (eq-eqb r.previous 0 none_named) ∙ other))
          of_other (inr names_one) other = ⊎_elim
              (λ le.
              subst (StandsAs g cut before r) (sym (ap (λ b. cond b (CutOff r.previous) Nowhere) le)) (
                sym (over_padded t one cut before) ∙ goes,
                record { some = subst (λ n. 0 < n) (sym names) names_one; below = subst (λ n. n ≤ cut) (sym names) (leb-true r.previous cut le) },
                inr (none_before, refl),
              ))
              (λ gt.
              subst (StandsAs g cut before r) (sym (ap (λ b. cond b (CutOff r.previous) Nowhere) gt))
              (λ m.
              let off = m.of_cut_off one (λ whole. let z : r.previous ≡ 0 = sym names ∙ whole in omega (arith, z, names_one)) in
              let below : r.previous ≤ cut = subst (λ n. n ≤ cut) names off.cut_off.below in
              true≢false (sym (le-leb r.previous cut below) ∙ gt)))
              (cases_Bool (nat_le r.previous cut))

-- ---- whether it is of a transaction whose front is cut off

pub no_own : (cut : ℕ) (before : List LogRecord) (r : LogRecord) → r.txn ≡ 0 → false ≡ is_own_cut_off cut before r
no_own cut before r none = sym (ap (λ (k : ℕ). nat_lt 0 k && nat_lt 0 (first_previous (kept_records_of cut r.txn (before ++ r ∷ [])))) none)

-- nobody's front is cut off if the log has its own
pub none_cut_off : (g : Geometry) (cut : ℕ) (before : List LogRecord) (r : LogRecord) → cut ≡ 0 → 0 < r.txn → IsMeantNow g cut before r → false ≡ is_own_cut_off cut before r
none_cut_off g cut before r all one m = by (first_previous (kept_records_of cut r.txn (before ++ r ∷ []))) refl
  where
    never : (b : Bool) → false ≡ (b && false)
    never true = refl
    never false = refl

    by : (k : ℕ) → first_previous (kept_records_of cut r.txn (before ++ r ∷ [])) ≡ k → false ≡ is_own_cut_off cut before r
    by zero is = never (nat_lt 0 r.txn) ∙ sym (ap (λ (k : ℕ). nat_lt 0 r.txn && nat_lt 0 k) is)
    by (suc k) is = absurd (omega (arith, all, is, (m.of_cut_off one (λ whole. omega (arith, is, whole))).cut_off.below))

pub own_told : (g : Geometry) (cut : ℕ) (before : List LogRecord) (r : LogRecord) → 0 < r.txn → IsMeantNow g cut before r → (s : Standing) → StandsAs g cut before r s
    → passes.stands_cut_off s ≡ is_own_cut_off cut before r
own_told g cut before r one m (Whole p) h =
    sym (ap (λ (k : ℕ). nat_lt 0 r.txn && nat_lt 0 k) h.1 ∙ never (nat_lt 0 r.txn))
  where
    never : (b : Bool) → (b && false) ≡ false
    never true = refl
    never false = refl
own_told g cut before r one m (CutOff last) h =
    sym (both_true (lt-ltb 0 r.txn one) (lt-ltb 0 (first_previous (kept_records_of cut r.txn (before ++ r ∷ []))) h.1.some))
own_told g cut before r one m Nowhere h = absurd (h m)
