-- The tables of a log whose front may be cut off, by its kept records and the anchored checkpoint.
use Rattle.std.specs.Prelude.{◌≡◌, ◌<◌, ◌≤◌, ℕ, List, [], All, IfSome, Option, None, Some}
use Rattle.shore_model.specs.declared.log_records.LogRecord.{LogRecord}
use Rattle.laws_checkpoints.specs.Checkpoints.{Checkpoint, end_among}
use Rattle.laws_checkpoints.specs.KeptTables.{IsKeptTable}
use Rattle.shore_analysis.specs.declared.kept_tables.KeptTables.{KeptTables}
use Rattle.shore_analysis.specs.declared.kept_tables.RedoTable.{RedoTable}
use Rattle.shore_analysis.specs.Tables.{state_of}

-- what the checkpoint's End says that redo needs; nothing if there is none
abbrev pub redo_table : Option Checkpoint → RedoTable
redo_table None = record { begin = 0; dirty = [] }
redo_table (Some c) = record { begin = c.begin; dirty = c.dirty }

-- the least number that is above those of the kept records' transactions and not below the End's
pub record IsNextKept (kept : List LogRecord) (end : Option Checkpoint) (next : ℕ) : Type 0 where
  pub some : 1 ≤ next
  pub above : All (λ r. r.txn < next) kept
  pub not_below : IfSome end (λ c. c.next ≤ next)
  pub least : (n : ℕ) → 1 ≤ n → All (λ r. r.txn < n) kept → IfSome end (λ c. c.next ≤ n) → next ≤ n

pub record AreKeptTables (cut checkpoint : ℕ) (kept : List LogRecord) (tables : KeptTables) : Type 0 where
  pub txns : IsKeptTable cut kept tables.txns
  pub states : All (λ e. e.state ≡ state_of e.txn kept) tables.txns
  pub redo : tables.redo ≡ redo_table (end_among checkpoint kept)
  pub next : IsNextKept kept (end_among checkpoint kept) tables.next

-- the next number of the checkpoint's End, 0 if there is none
abbrev pub next_told : Option Checkpoint → ℕ
next_told None = 0
next_told (Some c) = c.next
