-- Every log has a table of its transactions.
use Rattle.std.proofs.Common.{◌≡◌, ⊎_elim, inl, inr, ◌+◌, ◌<◌, ◌≤◌, ℕ, zero, suc, List, [], ◌∷◌, Bool, true, false, cond, Some, refl, sym, ap, subst, ◌∙◌, arith}
use Rattle.std.specs.Prelude.{◌&&◌, IsTrue, slice_get}
use Rattle.std.specs.List.{AllByRecursion}
use Rattle.std.proofs.lemmas.Bool.{cases_Bool, lt-ltb}
use Rattle.std.proofs.lemmas.List.Elements.{All-from_recursion}
use Rattle.shore_model.specs.declared.log_records.LogRecord.{LogRecord}
use Rattle.shore_model.specs.declared.log_records.LogTxn.{LogTxn}
use Rattle.shore_model.specs.Logs.{IsEntry, IsListed, IsTable, last_of, rise_above}
use Rattle.laws_checkpoints.proofs.Kept.{has_at, its}
use Rattle.laws_checkpoints.proofs.KeptTables.{get_all}
use Rattle.laws_checkpoints.proofs.Numbers.{last_low, some_filtered}
use Rattle.shore_analysis.specs.Passes.{entry_of, is_running}
use Rattle.shore_analysis.proofs.Counted.{Among, among_listed, cases_lt}
use Rattle.shore_analysis.proofs.KeptStandings.{running_is}
use Rattle.shore_analysis.proofs.KeptSteps.{running_by}
use Rattle.shore_analysis.proofs.Listed.{is_entry}

module _ (rs : List LogRecord) where
  -- those that run of so many numbers behind one
  table_from : ℕ → ℕ → List LogTxn
  table_from t zero = []
  table_from t (suc k) = cond (is_running (t + 1) rs) (entry_of (t + 1) rs ∷ table_from (t + 1) k) (table_from (t + 1) k)

  rises : (u t k : ℕ) → u ≤ t → IsTrue (rise_above u (table_from t k))
  unfolding table_from
  rises u t zero le = refl
  rises u t (suc k) le = ⊎_elim
      (λ runs.
      ap (λ b. rise_above u (cond b (entry_of (t + 1) rs ∷ table_from (t + 1) k) (table_from (t + 1) k))) runs
      ∙ ap (λ b. b && rise_above (t + 1) (table_from (t + 1) k)) (lt-ltb u (t + 1) (omega (arith, le))) ∙ rises (t + 1) (t + 1) k (omega arith))
      (λ other. ap (λ b. rise_above u (cond b (entry_of (t + 1) rs ∷ table_from (t + 1) k) (table_from (t + 1) k))) other ∙ rises u (t + 1) k (omega (arith, le)))
      (cases_Bool (is_running (t + 1) rs))

  entries : (t k : ℕ) → AllByRecursion (IsEntry rs) (table_from t k)
  unfolding table_from
  entries t zero = tt
  entries t (suc k) = ⊎_elim
      (λ runs.
      let its_run = running_is (t + 1) rs runs in
      subst (λ b. AllByRecursion (IsEntry rs) (cond b (entry_of (t + 1) rs ∷ table_from (t + 1) k) (table_from (t + 1) k))) (sym runs)
      (is_entry rs (t + 1) (entry_of (t + 1) rs) (record { one = omega arith; known = its_run.known; runs = its_run.runs; is = refl }), entries (t + 1) k))
      (λ other. subst (λ b. AllByRecursion (IsEntry rs) (cond b (entry_of (t + 1) rs ∷ table_from (t + 1) k) (table_from (t + 1) k))) (sym other) (entries (t + 1) k))
      (cases_Bool (is_running (t + 1) rs))

  lists : (v t k : ℕ) → t < v → v ≤ t + k → is_running v rs ≡ true → Among v (table_from t k)
  unfolding table_from
  lists v t zero lt le runs = absurd (omega (arith, lt, le))
  lists v t (suc k) lt le runs = elim (cases_lt v (t + 1)) [
    | inl less ↦ absurd (omega (arith, lt, less))
    | inr (inl same) ↦
        subst (λ b. Among v (cond b (entry_of (t + 1) rs ∷ table_from (t + 1) k) (table_from (t + 1) k))) (sym (ap (λ u. is_running u rs) (sym same) ∙ runs)) (inl (sym same))
    | inr (inr more) ↦ later (is_running (t + 1) rs) (lists v (t + 1) k more (omega (arith, le)) runs)
  ]
    where
      later : (b : Bool) → Among v (table_from (t + 1) k) → Among v (cond b (entry_of (t + 1) rs ∷ table_from (t + 1) k) (table_from (t + 1) k))
      later true a = inr a
      later false a = a

  -- a number that no transaction's is above
  most : List LogRecord → ℕ
  most [] = 0
  most (x ∷ xs) = x.txn + most xs

  most_above : (xs : List LogRecord) (n : ℕ) (r : LogRecord) → slice_get xs n ≡ Some r → r.txn ≤ most xs
  unfolding most
  most_above [] n r at = cc
  most_above (x ∷ xs) zero r at = let same : x ≡ r = cc in let own : x.txn ≡ r.txn = ap (λ (y : LogRecord). y.txn) same in omega (arith, own)
  most_above (x ∷ xs) (suc n) r at = let le = most_above xs n r at in omega (arith, le)

  known : (n : ℕ) (r : LogRecord) → slice_get rs n ≡ Some r → 0 < last_of r.txn rs
  known n r at = let low = last_low (its r.txn) 1 rs (some_filtered r.txn 1 rs (has_at rs n r at)) in omega (arith, low)

  pub some_table : (txns : List LogTxn) × IsTable rs txns
  some_table = (
    table_from 0 (most rs),
    record {
      rising = rises 0 0 (most rs) (omega arith);
      each = All-from_recursion (IsEntry rs) (table_from 0 (most rs)) (entries 0 (most rs));
      every = get_all (IsListed rs (table_from 0 (most rs))) rs (λ n r at one runs.
          let le = most_above rs n r at in
          among_listed r.txn (table_from 0 (most rs)) (lists r.txn 0 (most rs) one (omega (arith, le)) (running_by r.txn one rs (known n r at) runs)));
    },
  )
