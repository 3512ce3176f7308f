-- The table of transactions, as the kept records alone give it: the one that analysis makes, and those of the checkpoints among them.
use Rattle.std.specs.Prelude.{◌≡◌, ◌⊎◌, ◌<◌, ◌≤◌, ◌+◌, ◌-◌, ℕ, List, IsTrue, true, IsSomeAnd, All, slice_get, take}
use Rattle.shore_types.specs.Images.{Image}
use Rattle.shore_types.specs.declared.ids.Rid.{Rid}
use Rattle.shore_model.specs.declared.log_records.LogRecord.{LogRecord}
use Rattle.shore_model.specs.declared.log_records.LogTxn.{LogTxn}
use Rattle.shore_model.specs.declared.log_records.Payload.TheVariants.{Change, CheckpointBegin}
use Rattle.shore_model.specs.Logs.{IsListed, is_in_doubt, is_prepare, is_prepared, rise_above, undo_next_of}
use Rattle.laws_checkpoints.specs.KeptLogs.{IsKeptUnended, kept_first_of, kept_last_of, kept_prepare_number, kept_unanswered}

-- an entry of the table: its transaction has not ended by what is kept, and its numbers and its state are those that this tells
pub record IsKeptEntry (cut : ℕ) (kept : List LogRecord) (e : LogTxn) : Type 0 where
  pub unended : IsKeptUnended cut kept e.txn
  pub in_doubt : is_prepared e.state ≡ is_in_doubt e.txn kept
  pub first : e.first ≡ kept_first_of cut e.txn kept
  pub last : e.last ≡ kept_last_of cut e.txn kept
  pub undo_next : e.undo_next ≡ undo_next_of (kept_unanswered cut e.txn kept)
  pub prepare : e.prepare ≡ kept_prepare_number cut e.txn kept

-- those that have not ended by what is kept, each once, rising
pub record IsKeptTable (cut : ℕ) (kept : List LogRecord) (txns : List LogTxn) : Type 0 where
  pub rising : IsTrue (rise_above 0 txns)
  pub each : All (IsKeptEntry cut kept) txns
  pub every : All (IsListed kept txns) kept

-- the number is that of a kept record that is so
abbrev pub NamesKept : ℕ → List LogRecord → ℕ → (LogRecord → Type 0) → Type 0
NamesKept cut kept n P = (cut < n) × IsSomeAnd (slice_get kept (n - (cut + 1))) P

-- the numbers of an entry are those of records of its transaction: undo-next that of a Change, and of one in doubt that of its Prepare
pub record NamesItsRecords (cut : ℕ) (kept : List LogRecord) (e : LogTxn) : Type 0 where
  pub first : NamesKept cut kept e.first (λ r. r.txn ≡ e.txn)
  pub last : NamesKept cut kept e.last (λ r. r.txn ≡ e.txn)
  pub undo_next : 0 < e.undo_next → NamesKept cut kept e.undo_next (λ r. (r.txn ≡ e.txn) × ((id : Rid) × (was : Image) × (image : Image) × (r.payload ≡ Change id was image)))
  pub prepare : is_prepared e.state ≡ true → NamesKept cut kept e.prepare (λ r. (r.txn ≡ e.txn) × (is_prepare r.payload ≡ true))

-- ---- the table of a checkpoint's End

-- the kept records before a checkpoint's begin
abbrev pub kept_before : ℕ → ℕ → List LogRecord → List LogRecord
kept_before cut begin kept = take (begin - 1 - cut) kept

-- The first record of the entry's transaction is cut off, so the entry cannot be judged by what is kept; but that one has ended by it. The
-- entry's other numbers are below the begin's.
pub record IsEntryCutOff (cut : ℕ) (kept : List LogRecord) (begin : ℕ) (e : LogTxn) : Type 0 where
  pub some : 0 < e.first
  pub first : e.first ≤ cut
  pub ended : IsKeptUnended cut kept e.txn → ⊥
  pub last : e.last < begin
  pub undo_next : e.undo_next < begin
  pub prepare : e.prepare < begin

-- An entry of an End is as the kept records before the begin tell, or its transaction's front is cut off.
abbrev pub IsEntryBehind : ℕ → List LogRecord → List LogRecord → ℕ → LogTxn → Type 0
IsEntryBehind cut kept before begin e = IsKeptEntry cut (kept_before cut begin before) e ⊎ IsEntryCutOff cut kept begin e

-- An End, with these kept records before it: its begin is among them, or is cut off; its table is as at that begin, and its next number is
-- above the transactions of all that is kept from before it.
pub record IsEndBehind (cut : ℕ) (kept before : List LogRecord) (begin next : ℕ) (txns : List LogTxn) : Type 0 where
  pub some : 0 < begin
  pub begins : cut < begin → IsSomeAnd (slice_get before (begin - 1 - cut)) (λ r. r.payload ≡ CheckpointBegin)
  pub rising : IsTrue (rise_above 0 txns)
  pub each : All (IsEntryBehind cut kept before begin) txns
  pub every : All (IsListed (kept_before cut begin before) txns) (kept_before cut begin before)
  pub above : All (λ r. r.txn < next) (kept_before cut begin before)
