-- Transactions that rise come once each.
use Rattle.std.proofs.Common.{◌≡◌, ◌<◌, ◌≤◌, ℕ, List, [], ◌∷◌, length, map, sym, arith}
use Rattle.std.specs.Prelude.{IsTrue, nat_lt}
use Rattle.std.specs.Cmp.{nat_cmp_is}
use Rattle.std.specs.List.{AllByRecursion}
use Rattle.std.specs.List.Sorted.{IsStrictlySortedBy}
use Rattle.std.specs.Ordering.{nat_cmp}
use Rattle.std.specs.declared.cmp.Ordering.TheVariants.{Less}
use Rattle.std.proofs.lemmas.Bool.{ltb-true}
use Rattle.std.proofs.lemmas.List.Elements.{All-from_recursion}
use Rattle.std.proofs.lemmas.Map.Keys.{IsDistinct-from_sorted}
use Rattle.shore_types.specs.declared.layout.TheConstants.{MAX_TRANSACTIONS}
use Rattle.shore_model.specs.declared.log_records.LogTxn.{LogTxn}
use Rattle.shore_model.specs.Logs.{rise_above}
use Rattle.laws_lives.proofs.Booleans.{and_true}
use Rattle.shore_check.specs.Tables.{AreTxns}

first_above : (t : ℕ) (e : LogTxn) (es : List LogTxn) → IsTrue (rise_above t (e ∷ es)) → (t < e.txn) × IsTrue (rise_above e.txn es)
first_above t e es rise = let both = and_true (nat_lt t e.txn) (rise_above e.txn es) rise in (ltb-true t e.txn both.0, both.1)

above : (t u : ℕ) (es : List LogTxn) → t ≤ u → IsTrue (rise_above u es) → AllByRecursion (λ e. t < e.txn) es
above t u [] le rise = tt
above t u (e ∷ es) le rise = let first = first_above u e es rise in let lower = first.0 in (omega arith, above t e.txn es (omega arith) first.1)

less_than : (t : ℕ) (es : List LogTxn) → AllByRecursion (λ e. t < e.txn) es → AllByRecursion (λ n. nat_cmp t n ≡ Less) (map (λ (e : LogTxn). e.txn) es)
less_than t [] all = tt
less_than t (e ∷ es) all = (sym (nat_cmp_is t e.txn Less all.0), less_than t es all.1)

numbers_rise : (t : ℕ) (es : List LogTxn) → IsTrue (rise_above t es) → IsStrictlySortedBy nat_cmp (map (λ (e : LogTxn). e.txn) es)
unfolding IsStrictlySortedBy
numbers_rise t [] rise = tt
numbers_rise t (e ∷ es) rise = let first = first_above t e es rise in (less_than e.txn es (above e.txn e.txn es (omega arith) first.1), numbers_rise e.txn es first.1)

pub txns_listed : (txns : List LogTxn) → length txns ≤ MAX_TRANSACTIONS → IsTrue (rise_above 0 txns) → AreTxns txns
txns_listed txns few rise = record {
  few = few;
  some = All-from_recursion (λ e. 0 < e.txn) txns (above 0 0 txns (omega arith) rise);
  once = IsDistinct-from_sorted nat_cmp (map (λ (e : LogTxn). e.txn) txns) (numbers_rise 0 txns rise);
}
