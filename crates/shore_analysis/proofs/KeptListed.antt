-- The tables of what is kept are those that a pass over it has kept.
use Rattle.std.proofs.Common.{◌≡◌, ◌+◌, ◌<◌, ℕ, List, [], ◌∷◌, ◌++◌, Bool, true, false, cond, Option, None, Some, refl, sym, ap, subst, ◌∙◌, length, max, append-nil, arith}
use Rattle.std.specs.Prelude.{◌==◌, All, filter, is_some, reverse}
use Rattle.std.specs.List.{AllByRecursion, enumerate_from}
use Rattle.std.specs.Ordering.{nat_cmp}
use Rattle.std.specs.Cmp.{nat_cmp_total}
use Rattle.std.specs.BTreeMap.{IsOrdered, get, values}
use Rattle.std.specs.Map.{values_of}
use Rattle.std.proofs.lemmas.List.{reverse-append}
use Rattle.std.proofs.lemmas.List.Elements.{All-from_recursion, All-weaker, filter-append, recursion_from_All}
use Rattle.shore_types.specs.declared.layout.Geometry.{Geometry}
use Rattle.shore_model.specs.declared.log_records.LogRecord.{LogRecord}
use Rattle.shore_model.specs.declared.log_records.LogTxn.{LogTxn}
use Rattle.shore_model.specs.declared.log_records.TxnState.TheVariants.{Active, Prepared, RollingBack}
use Rattle.laws_lives.proofs.OneMore.{by_push}
use Rattle.laws_checkpoints.specs.Checkpoints.{Checkpoint}
use Rattle.laws_checkpoints.specs.KeptTables.{IsKeptEntry, IsKeptTable}
use Rattle.laws_checkpoints.proofs.Lists.{enumerate-append}
use Rattle.shore_analysis.specs.declared.kept_passes.KeptPass.{KeptPass}
use Rattle.shore_analysis.specs.KeptMeant.{AreMeantKept}
use Rattle.shore_analysis.specs.KeptPasses.{KnowsKept}
use Rattle.shore_analysis.specs.KeptTables.{IsNextKept, next_told}
use Rattle.shore_analysis.specs.Padded.{padded}
use Rattle.shore_analysis.specs.Tables.{IsNext, is_undo, newest_is_undo, state_of}
use Rattle.shore_analysis.proofs.KeptCrowds.{exact_entry, key_some, lists_all, rising}
use Rattle.shore_analysis.proofs.KeptEnded.{unended_whole}
use Rattle.shore_analysis.proofs.KeptFirsts.{runs_unended}
use Rattle.shore_analysis.proofs.KeptMeans.{in_doubt_padded}
use Rattle.shore_analysis.proofs.Listed.{all_found, entry_runs}
use Rattle.shore_analysis.proofs.Padding.{records_padded}

-- ---- states

module _ (t n m : ℕ) where
  abbrev picked : ℕ → List LogRecord → List (ℕ × LogRecord)
  picked k rs = filter (λ x. x.1.txn == t) (enumerate_from k rs)

  picked-push : (k : ℕ) (rs : List LogRecord) (r : LogRecord) → picked k (rs ++ r ∷ []) ≡ picked k rs ++ cond (r.txn == t) ((k + length rs, r) ∷ []) []
  picked-push k rs r = ap (filter (λ x. x.1.txn == t)) (enumerate-append k rs (r ∷ [])) ∙ filter-append (λ x. x.1.txn == t) (enumerate_from k rs) ((k + length rs, r) ∷ [])

  newest-push : (es : List (ℕ × LogRecord)) (e : ℕ × LogRecord) (b : Bool) → newest_is_undo (reverse (es ++ cond b (e ∷ []) [])) ≡ cond b (is_undo e.1.payload) (newest_is_undo (reverse es))
  newest-push es e true = ap newest_is_undo (reverse-append es (e ∷ []))
  newest-push es e false = ap (λ xs. newest_is_undo (reverse xs)) (append-nil es)

  -- which the last record is does not depend on the numbers
  pub newest_same : (rs : List LogRecord) → newest_is_undo (reverse (picked n rs)) ≡ newest_is_undo (reverse (picked m rs))
  newest_same = by_push (λ rs. newest_is_undo (reverse (picked n rs)) ≡ newest_is_undo (reverse (picked m rs))) refl (λ rs r same.
      ap (λ es. newest_is_undo (reverse es)) (picked-push n rs r)
      ∙ newest-push (picked n rs) (n + length rs, r) (r.txn == t)
      ∙ ap (cond (r.txn == t) (is_undo r.payload)) same
      ∙ sym (ap (λ es. newest_is_undo (reverse es)) (picked-push m rs r) ∙ newest-push (picked m rs) (m + length rs, r) (r.txn == t)))

pub state_padded : (t : ℕ) → 0 < t → (cut : ℕ) (kept : List LogRecord) → state_of t (padded cut kept) ≡ state_of t kept
state_padded t one cut kept = λ i. cond (in_doubt_padded t one cut kept i) Prepared
    (cond ((ap (λ es. newest_is_undo (reverse es)) (records_padded t one cut kept) ∙ newest_same t (cut + 1) 1 kept) i) RollingBack Active)

-- ---- the table

module _ (g : Geometry) (cut : ℕ) (kept : List LogRecord) (pass : KeptPass) (knows : KnowsKept g cut kept pass) (all : AreMeantKept g cut kept) (ordered : IsOrdered nat_cmp pass.running) where
  -- all that have not ended are whole, so each entry has its transaction's numbers
  record IsExact (e : LogTxn) : Type 0 where
    pub entry : IsKeptEntry cut kept e
    pub state : e.state ≡ state_of e.txn kept

  exact : (t : ℕ) (e : LogTxn) → get nat_cmp pass.running t ≡ Some e → IsExact e
  exact t e here =
      let one = key_some g cut kept pass knows t e here in
      let u = runs_unended cut kept pass knows.ends t one (ap is_some here) in
      let whole = unended_whole g cut kept all t u in
      let entry = entry_runs t (padded cut kept) e (sym (knows.whole t one whole) ∙ here) in
      subst IsExact (sym entry.is) (record { entry = exact_entry g cut kept pass knows ordered t u; state = state_padded t one cut kept })

  exact_all : (es : List (ℕ × LogTxn)) → AllByRecursion (λ e. get nat_cmp pass.running e.0 ≡ Some e.1) es → AllByRecursion IsExact (values_of es)
  exact_all [] h = tt
  exact_all (e ∷ es) h = (exact e.0 e.1 h.0, exact_all es h.1)

  exact_values : AllByRecursion IsExact (values pass.running)
  exact_values = exact_all pass.running.entries (recursion_from_All (λ e. get nat_cmp pass.running e.0 ≡ Some e.1) pass.running.entries (all_found nat_cmp_total pass.running ordered))

  exact_each : All IsExact (values pass.running)
  exact_each = All-from_recursion IsExact (values pass.running) exact_values

  pub kept_table : IsKeptTable cut kept (values pass.running)
  kept_table = record {
    rising = rising g cut kept pass knows ordered;
    each = All-weaker IsExact (IsKeptEntry cut kept) (λ e h. h.entry) (values pass.running) exact_each;
    every = lists_all g cut kept pass knows ordered (values pass.running) (λ t among. among);
  }

  pub kept_states : All (λ e. e.state ≡ state_of e.txn kept) (values pass.running)
  kept_states = All-weaker IsExact (λ e. e.state ≡ state_of e.txn kept) (λ e h. h.state) (values pass.running) exact_each

-- ---- the next number

pub next_kept : (kept : List LogRecord) (end : Option Checkpoint) (n : ℕ) → IsNext kept n → IsNextKept kept end (max (next_told end) n)
next_kept kept None n h = record {
  some = (let some = h.some in omega arith);
  above = All-weaker (λ r. r.txn < n) (λ r. r.txn < max 0 n) (λ r lt. omega (arith, lt)) kept h.above;
  not_below = tt;
  least = λ k one above none. let le = h.least k one above in omega (arith, le);
}
next_kept kept (Some c) n h = record {
  some = (let some = h.some in omega arith);
  above = All-weaker (λ r. r.txn < n) (λ r. r.txn < max c.next n) (λ r lt. omega (arith, lt)) kept h.above;
  not_below = omega arith;
  least = λ k one above low. let le = h.least k one above in omega (arith, le, low);
}
