-- A checkpoint's begin and its tables in a longer log, and the pages that each End lists.
use Rattle.std.proofs.Common.{◌≡◌, ⊎_elim, ◌<◌, ◌-◌, ℕ, List, [], ◌∷◌, ◌++◌, true, false, Option, None, Some, All, refl, sym, ap, subst, ◌∙◌, length, take, arith}
use Rattle.std.specs.Prelude.{◌==◌, slice_get, IsSomeAnd}
use Rattle.std.proofs.lemmas.Bool.{cases_Bool, eqb-true, eq-eqb, true≢false}
use Rattle.std.proofs.lemmas.List.{take-append-le}
use Rattle.std.proofs.lemmas.Option.{slice_get_within}
use Rattle.shore_model.specs.declared.log_records.DirtyPage.{DirtyPage}
use Rattle.shore_model.specs.declared.log_records.LogRecord.{LogRecord}
use Rattle.shore_model.specs.declared.log_records.LogTxn.{LogTxn}
use Rattle.shore_model.specs.declared.log_records.Payload.{Payload}
use Rattle.shore_model.specs.declared.log_records.Payload.TheVariants.{CheckpointBegin, CheckpointEnd, Anchor}
use Rattle.shore_model.specs.Logs.{IsAsAtBegin, IsTable, Lawful, before_begin, is_commit, is_end, is_of_checkpoint, is_over}
use Rattle.shore_model.proofs.Beginnings.{slice_get-push, slice_get_of_take, take_of_take}
use Rattle.laws_lives.proofs.EndedTxns.{over_other, over_same}
use Rattle.laws_lives.proofs.Writers.{by_records}
use Rattle.laws_checkpoints.specs.RecoveryNumbers.{EndsListChanges, ListsChanges}
use Rattle.laws_checkpoints.proofs.Lists.{get_longer}

some_longer : (log more : List LogRecord) (n : ℕ) (P : LogRecord → Type 0) → IsSomeAnd (slice_get log n) P → (n < length log) × IsSomeAnd (slice_get (log ++ more) n) P
some_longer log more n P h = by_one (slice_get log n) refl h
  where
    by_one : (o : Option LogRecord) → slice_get log n ≡ o → IsSomeAnd o P → (n < length log) × IsSomeAnd (slice_get (log ++ more) n) P
    by_one None e is = absurd is
    by_one (Some r) e is = (slice_get_within log n r e, subst (λ o. IsSomeAnd o P) (sym (get_longer log more n r e)) is)

pub as_at_longer : (log more : List LogRecord) (begin next : ℕ) (txns : List LogTxn) → IsAsAtBegin log begin next txns → IsAsAtBegin (log ++ more) begin next txns
as_at_longer log more begin next txns h =
    let at = some_longer log more (begin - 1) (λ r. r.payload ≡ CheckpointBegin) h.begins.1 in
    let lt = at.0 in
    let same : before_begin (log ++ more) begin ≡ before_begin log begin = take-append-le (begin - 1) log more (omega arith) in
    record {
      begins = (h.begins.0, at.1);
      table = subst (λ xs. IsTable xs txns) (sym same) h.table;
      above = subst (All (λ r. r.txn < next)) (sym same) h.above;
    }

-- nobody is transaction 0
pub nobody_over : (log : List LogRecord) → Lawful log → is_over 0 log ≡ false
nobody_over = by_records (λ log. is_over 0 log ≡ false) refl (λ log r follows h. ⊎_elim
    (λ own.
    let no_one : r.txn ≡ 0 = eqb-true r.txn 0 own in
    let plain = ends_nothing r.payload (follows.of ∙ own) in
    over_same log r plain.0 plain.1 0 ∙ h)
    (λ other. over_other log r 0 (λ e. true≢false (sym (eq-eqb r.txn 0 e) ∙ other)) ∙ h)
    (cases_Bool (r.txn == 0)))
  where
    ends_nothing : (p : Payload) → is_of_checkpoint p ≡ true → (is_commit p ≡ false) × (is_end p ≡ false)
    ends_nothing CheckpointBegin h = (refl, refl)
    ends_nothing (CheckpointEnd begin next txns dirty) h = (refl, refl)
    ends_nothing (Anchor checkpoint tail) h = (refl, refl)
    ends_nothing _ h = cc

-- ---- the pages that the Ends list

-- the record is no End, or lists pages that these records change
abbrev pub ListsWhatChanged : List LogRecord → LogRecord → Type 0
ListsWhatChanged log r = (begin next : ℕ) (txns : List LogTxn) (dirty : List DirtyPage) → r.payload ≡ CheckpointEnd begin next txns dirty → ListsChanges log begin dirty

pub ends_push : (log : List LogRecord) (r : LogRecord) → EndsListChanges log → ListsWhatChanged log r → EndsListChanges (log ++ r ∷ [])
ends_push log r h listed n x begin next txns dirty at says = ⊎_elim
    (λ old. subst (λ xs. ListsChanges xs begin dirty) (sym old.1) (h n x begin next txns dirty old.0 says))
    (λ new. subst (λ xs. ListsChanges xs begin dirty) (sym new.1) (listed begin next txns dirty (ap (λ (y : LogRecord). y.payload) new.0 ∙ says)))
    (slice_get-push log r n x at)

pub ends_front : (log : List LogRecord) (m : ℕ) → EndsListChanges log → EndsListChanges (take m log)
ends_front log m h n x begin next txns dirty at says =
    subst (λ xs. ListsChanges xs begin dirty) (sym (take_of_take log m n x at)) (h n x begin next txns dirty (slice_get_of_take log m n x at) says)

pub beside_checkpoints : (log : List LogRecord) (r : LogRecord) → is_of_checkpoint r.payload ≡ false → ListsWhatChanged log r
beside_checkpoints log r plain begin next txns dirty says = absurd (true≢false (sym (ap is_of_checkpoint says) ∙ plain))
