-- Entries of a checkpoint's tables: what is read is spelled so, and what is spelled so is read.
use Rattle.std.proofs.Common.{◌≡◌, ℕ, zero, suc, ◌^◌, ◌<◌, ◌≤◌, true, false, cond, eqb, List, [], ◌∷◌, ◌++◌, Option, Some, None, refl, sym, ap, subst, ◌∙◌, arith}
use Rattle.std.specs.Prelude.{nat_lt}
use Rattle.std.specs.Cmp.{IsTotalOrder}
use Rattle.std.proofs.lemmas.Bool.{lt-ltb, ne_eqb}
use Rattle.std.proofs.lemmas.Cmp.{on_total}
use Rattle.byteorder.specs.Endian.{little_bytes}
use Rattle.shore_types.specs.Ids.{page_cmp, pages_total}
use Rattle.shore_model.specs.declared.log_records.DirtyPage.{DirtyPage}
use Rattle.shore_model.specs.declared.log_records.LogTxn.{LogTxn}
use Rattle.shore_model.specs.declared.log_records.TxnState.{TxnState}
use Rattle.shore_model.specs.declared.log_records.TxnState.TheVariants.{Active, Prepared, RollingBack}
use Rattle.shore_logrec.specs.Text.{DirtyFits, TxnFits, dirty_cmp, dirty_text, state_number, txn_text}
use Rattle.shore_logrec.specs.Reading.{◌>>=◌, TxnFields, byte_at, dirty_at, dirty_of, entry_of, number_at, pair_at, state_of, txn_at, txn_fields_at, txn_of}
use Rattle.shore_logrec.proofs.Numbers.{IsBytes}
use Rattle.shore_logrec.proofs.Readers.{IsReader, bind_some, byte_reads, made_reads, number_reads, pair_reads, some_is}
use Rattle.shore_logrec.proofs.TableReads.{none_kept}

-- ---- a transaction

abbrev fields_text : TxnFields → List ℕ
fields_text x =
    ((((little_bytes 8 x.0.0.0.0.0 ++ (x.0.0.0.0.1 ∷ [])) ++ little_bytes 8 x.0.0.0.1) ++ little_bytes 8 x.0.0.1) ++ little_bytes 8 x.0.1)
    ++ little_bytes 8 x.1

abbrev FieldsFit : TxnFields → Type 0
FieldsFit x = (((((x.0.0.0.0.0 < 2 ^ 64) × (x.0.0.0.0.1 < 256)) × (x.0.0.0.1 < 2 ^ 64)) × (x.0.0.1 < 2 ^ 64)) × (x.0.1 < 2 ^ 64)) × (x.1 < 2 ^ 64)

fields_read : IsReader txn_fields_at fields_text FieldsFit
unfolding txn_fields_at
fields_read =
    let n = number_reads 8 in
    let a = pair_at (number_at 8) byte_at in
    let b = pair_at a (number_at 8) in
    let c = pair_at b (number_at 8) in
    let d = pair_at c (number_at 8) in
    pair_reads d (number_at 8) (λ x. (((little_bytes 8 x.0.0.0.0 ++ (x.0.0.0.1 ∷ [])) ++ little_bytes 8 x.0.0.1) ++ little_bytes 8 x.0.1) ++ little_bytes 8 x.1) (little_bytes 8)
    (λ x. ((((x.0.0.0.0 < 2 ^ 64) × (x.0.0.0.1 < 256)) × (x.0.0.1 < 2 ^ 64)) × (x.0.1 < 2 ^ 64)) × (x.1 < 2 ^ 64)) (λ n. n < 2 ^ 64)
    (pair_reads c (number_at 8) (λ x. ((little_bytes 8 x.0.0.0 ++ (x.0.0.1 ∷ [])) ++ little_bytes 8 x.0.1) ++ little_bytes 8 x.1) (little_bytes 8)
    (λ x. (((x.0.0.0 < 2 ^ 64) × (x.0.0.1 < 256)) × (x.0.1 < 2 ^ 64)) × (x.1 < 2 ^ 64)) (λ n. n < 2 ^ 64)
    (pair_reads b (number_at 8) (λ x. (little_bytes 8 x.0.0 ++ (x.0.1 ∷ [])) ++ little_bytes 8 x.1) (little_bytes 8)
    (λ x. ((x.0.0 < 2 ^ 64) × (x.0.1 < 256)) × (x.1 < 2 ^ 64)) (λ n. n < 2 ^ 64)
    (pair_reads a (number_at 8) (λ x. little_bytes 8 x.0 ++ (x.1 ∷ [])) (little_bytes 8) (λ x. (x.0 < 2 ^ 64) × (x.1 < 256)) (λ n. n < 2 ^ 64)
    (pair_reads (number_at 8) byte_at (little_bytes 8) (λ b. b ∷ []) (λ n. n < 2 ^ 64) (λ b. b < 256) n byte_reads) n) n) n) n

-- the byte of a state is its number
state_is : (number : ℕ) (state : TxnState) → state_of number ≡ Some state → number ≡ state_number state
state_is zero state e = absurd cc
state_is (suc zero) state e = ap state_number (some_is Active state e)
state_is (suc (suc zero)) state e = ap state_number (some_is Prepared state e)
state_is (suc (suc (suc zero))) state e = ap state_number (some_is RollingBack state e)
state_is (suc (suc (suc (suc n)))) state e = absurd cc

state_again : (state : TxnState) → state_of (state_number state) ≡ Some state
state_again Active = refl
state_again Prepared = refl
state_again RollingBack = refl

state_short : (state : TxnState) → state_number state < 256
state_short Active = omega arith
state_short Prepared = omega arith
state_short RollingBack = omega arith

some_number : (n : ℕ) → eqb n 0 ≡ false → 1 ≤ n
some_number zero e = absurd cc
some_number (suc n) e = omega arith

abbrev fields_of : LogTxn → TxnFields
fields_of t = (((((t.txn, state_number t.state), t.first), t.last), t.undo_next), t.prepare)

pub txn_reads : IsReader txn_at txn_text TxnFits
unfolding txn_at
txn_reads = record { takes = txn_takes; again = txn_again }
  where
    txn_takes : (bytes : List ℕ) (t : LogTxn) (rest : List ℕ) → IsBytes bytes → txn_at bytes ≡ Some (t, rest) → (bytes ≡ txn_text t ++ rest) × TxnFits t
    txn_takes bytes t rest fits e =
        let x = bind_some (txn_fields_at bytes) (λ x. txn_of x.0 >>= λ t. Some (t, x.1)) (t, rest) e in
        let y = bind_some (txn_of x.0.0) (λ t. Some (t, x.0.1)) (t, rest) x.2 in
        let fields = fields_read.takes bytes x.0.0 x.0.1 fits x.1 in
        let s = bind_some (state_of x.0.0.0.0.0.0.1) (λ s. cond (eqb x.0.0.0.0.0.0.0 0) None (Some (entry_of x.0.0 s))) y.0 y.1 in
        let k = none_kept (eqb x.0.0.0.0.0.0.0 0) (Some (entry_of x.0.0 s.0)) y.0 s.2 in
        let number = state_is x.0.0.0.0.0.0.1 s.0 s.1 in
        let entry : LogTxn = entry_of x.0.0 s.0 in
        let spelled : fields_text x.0.0 ≡ txn_text entry =
        ap (λ (n : ℕ). ((((little_bytes 8 x.0.0.0.0.0.0.0 ++ (n ∷ [])) ++ little_bytes 8 x.0.0.0.0.0.1) ++ little_bytes 8 x.0.0.0.0.1) ++ little_bytes 8 x.0.0.0.1) ++ little_bytes 8 x.0.0.1) number in
        let there : TxnFits entry = record {
          some = some_number x.0.0.0.0.0.0.0 k.0;
          txn = fields.1.0.0.0.0.0;
          first = fields.1.0.0.0.1;
          last = fields.1.0.0.1;
          undo_next = fields.1.0.1;
          prepare = fields.1.1;
        } in
        let made : LogTxn × List ℕ = (entry, x.0.1) in
        let same : made ≡ (t, rest) = ap (λ (u : LogTxn). (u, x.0.1)) (some_is entry y.0 k.1) ∙ some_is (y.0, x.0.1) (t, rest) y.2 in
        subst (λ (v : LogTxn × List ℕ). (bytes ≡ txn_text v.0 ++ v.1) × TxnFits v.0) same (fields.0 ∙ ap (λ (l : List ℕ). l ++ x.0.1) spelled, there)

    txn_again : (t : LogTxn) (rest : List ℕ) → TxnFits t → txn_at (txn_text t ++ rest) ≡ Some (t, rest)
    txn_again t rest fits =
        let read = fields_read.again (fields_of t) rest (((((fits.txn, state_short t.state), fits.first), fits.last), fits.undo_next), fits.prepare) in
        let some : eqb t.txn 0 ≡ false = ne_eqb t.txn 0 (λ e. let s = fits.some in omega arith) in
        rw (read, state_again t.state, some) refl

pub above_none : (t : LogTxn) → TxnFits t → nat_lt 0 t.txn ≡ true
above_none t fits = let s = fits.some in lt-ltb 0 t.txn (omega arith)

-- ---- a dirty page

pub dirty_total : IsTotalOrder dirty_cmp
dirty_total = on_total (λ (d : DirtyPage). d.page) pages_total

pub dirty_reads : IsReader dirty_at dirty_text DirtyFits
unfolding dirty_at
dirty_reads =
    let numbers = made_reads dirty_of (λ d. ((d.page.store, d.page.page), d.recovery)) (pair_at (pair_at (number_at 4) (number_at 4)) (number_at 8))
    (λ n. (little_bytes 4 n.0.0 ++ little_bytes 4 n.0.1) ++ little_bytes 8 n.1) (λ n. ((n.0.0 < 2 ^ 32) × (n.0.1 < 2 ^ 32)) × (n.1 < 2 ^ 64)) (λ d. refl) (λ n. refl)
    (pair_reads (pair_at (number_at 4) (number_at 4)) (number_at 8) (λ n. little_bytes 4 n.0 ++ little_bytes 4 n.1) (little_bytes 8) (λ n. (n.0 < 2 ^ 32) × (n.1 < 2 ^ 32)) (λ n. n < 2 ^ 64)
    (pair_reads (number_at 4) (number_at 4) (little_bytes 4) (little_bytes 4) (λ n. n < 2 ^ 32) (λ n. n < 2 ^ 32) (number_reads 4) (number_reads 4)) (number_reads 8)) in
    record {
      takes = λ bytes d rest fits e. let t = numbers.takes bytes d rest fits e in (t.0, record { store = t.1.0.0; page = t.1.0.1; recovery = t.1.1 });
      again = λ d rest fits. numbers.again d rest ((fits.store, fits.page), fits.recovery);
    }
