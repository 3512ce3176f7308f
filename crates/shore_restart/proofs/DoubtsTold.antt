-- A table with those in doubt, as the sessions have it, and as an opening lists them.
use Rattle.std.proofs.Common.{◌≡◌, inl, inr, ℕ, List, [], ◌∷◌, true, None, refl, sym, ap, subst, ◌∙◌, length, map}
use Rattle.std.specs.Prelude.{unwrap_or}
use Rattle.std.specs.List.{AllByRecursion, cons_option, filter_map}
use Rattle.std.proofs.lemmas.List.{length-map}
use Rattle.std.proofs.lemmas.Simd.{map-map}
use Rattle.shore_model.specs.declared.histories.InDoubt.{InDoubt}
use Rattle.shore_model.specs.declared.log_records.LogRecord.{LogRecord}
use Rattle.laws_lives.specs.Doubts.{LoggedDoubt, pair_logged}
use Rattle.shore_analysis.specs.Doubts.{doubts_left}
use Rattle.laws_lives.specs.Sessions.{PreparedTxn, SessionTxn, txns_of}
use Rattle.laws_lives.specs.Soundness.{found_in_doubt}
use Rattle.laws_lives.specs.Views.{IsAmong}
use Rattle.laws_lives.proofs.Lists.{mapped_one}
use Rattle.shore_sessions.specs.Seated.{as_rolled, rolled_as, rolled_in}
use Rattle.shore_txn.specs.Transactions.{prepared_in, txns_in, undos_in}
use Rattle.shore_txn.specs.Txns.{global_of, number_of}
use Rattle.shore_txn.specs.declared.transactions.Transactions.{Transactions}
use Rattle.shore_txn.specs.declared.txn.Txn.{Txn}
use Rattle.shore_restart.specs.Doubts.{prepared_told, undo_told, undos_told}
use Rattle.shore_restart.specs.GivenBack.{AreGivenBack, HasDoubts, IsGivenBack}
use Rattle.shore_restart.proofs.DoubtLaws.{prepared_same, undos_same}

-- ---- one of them

unrolled : (log : List LogRecord) (d : LoggedDoubt) (t : Txn) → IsGivenBack log d t → as_rolled t ≡ None
unrolled log d t of = ap (rolled_as (number_of t) (unwrap_or (global_of t) [])) of.decided

-- ---- all of them

none_rolled : (log : List LogRecord) (ds : List LoggedDoubt) (ts : List Txn) → AreGivenBack log ds ts → filter_map as_rolled ts ≡ []
none_rolled log [] [] back = refl
none_rolled log [] (t ∷ ts) back = absurd back
none_rolled log (d ∷ ds) [] back = absurd back
none_rolled log (d ∷ ds) (t ∷ ts) back = λ i. cons_option (unrolled log d t back.0 i) (none_rolled log ds ts back.1 i)

module _ (log : List LogRecord) (txns : Transactions) (back : HasDoubts log txns) where
  pub undos_are_told : undos_in txns ≡ undos_told log
  undos_are_told = undos_same log (doubts_left log) (txns_in txns) back

  pub prepared_are_told : prepared_in txns ≡ prepared_told log
  prepared_are_told = prepared_same log (doubts_left log) (txns_in txns) back

  pub nobody_rolled : rolled_in txns ≡ []
  nobody_rolled = none_rolled log (doubts_left log) (txns_in txns) back

  -- what holds of each of them holds of its transaction in the table
  pub each_given : (P : Txn → Type 0) → ((d : LoggedDoubt) (t : Txn) → IsAmong d (doubts_left log) → IsGivenBack log d t → P t) → AllByRecursion P (txns_in txns)
  each_given P holds = each (doubts_left log) (txns_in txns) back holds
    where
      each : (ds : List LoggedDoubt) (ts : List Txn) → AreGivenBack log ds ts → ((d : LoggedDoubt) (t : Txn) → IsAmong d ds → IsGivenBack log d t → P t) → AllByRecursion P ts
      each [] [] back holds = tt
      each [] (t ∷ ts) back holds = absurd back
      each (d ∷ ds) [] back holds = absurd back
      each (d ∷ ds) (t ∷ ts) back holds = (holds d t (inl refl) back.0, each ds ts back.1 (λ e u among of. holds e u (inr among) of))

  -- an undo list in the table is that which the log gives one in doubt
  pub one_of_them : (a : SessionTxn) → IsAmong a (undos_in txns) → (d : LoggedDoubt) × IsAmong d (doubts_left log) × (undo_told log d ≡ a)
  one_of_them a among = mapped_one (undo_told log) a (doubts_left log) (subst (IsAmong a) undos_are_told among)

  pub as_many_undos : length (undos_in txns) ≡ length (doubts_left log)
  as_many_undos = ap length undos_are_told ∙ length-map (doubts_left log) (undo_told log)

  -- ---- as an opening of the log lists them

  module _ (listed : List InDoubt) (same : map (λ (d : InDoubt). (d.txn, d.global)) listed ≡ map pair_logged (doubts_left log)) where
    by_pairs : {B : Type 0} (h : ℕ × List ℕ → B) → map (λ (d : LoggedDoubt). h (d.txn, d.global)) (doubts_left log) ≡ map (λ (d : InDoubt). h (d.txn, d.global)) listed
    by_pairs h = sym (map-map h pair_logged (doubts_left log)) ∙ ap (map h) (sym same) ∙ map-map h (λ (d : InDoubt). (d.txn, d.global)) listed

    pub prepared_listed : prepared_in txns ≡ map found_in_doubt listed
    prepared_listed = prepared_are_told ∙ by_pairs answered
      where
        answered : ℕ × List ℕ → PreparedTxn
        answered p = record { txn = p.0; global = p.1; answered = true }

    pub active_listed : txns_of (undos_in txns) ≡ map (λ (d : InDoubt). d.txn) listed
    active_listed = ap txns_of undos_are_told ∙ map-map (λ (a : SessionTxn). a.txn) (undo_told log) (doubts_left log) ∙ by_pairs (λ p. p.0)
