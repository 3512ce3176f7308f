-- Undo needs no table of Changes: each record leads to the next Change to be undone (ARIES: PrevLSN and UndoNxtLSN).
use Rattle.std.specs.Prelude.{◌≡◌, ◌<◌, ◌-◌, ℕ, List, [], ◌∷◌, Some, slice_get, take}
use Rattle.shore_types.specs.Images.{Image}
use Rattle.shore_model.specs.declared.unanswered_changes.UnansweredChange.{UnansweredChange}
use Rattle.shore_model.specs.declared.log_records.LogRecord.{LogRecord}
use Rattle.shore_model.specs.declared.log_records.Payload.{Payload}
use Rattle.shore_model.specs.declared.log_records.Payload.TheVariants.{Change, Compensation}
use Rattle.shore_model.specs.Logs.{last_of, unanswered, undo_next_of}

-- at its number the log has this Change of the transaction, and before it the older ones were those that nobody had answered
pub record IsChangeAt (log : List LogRecord) (t : ℕ) (c : UnansweredChange) (older : List UnansweredChange) : Type 0 where
  pub is_one : 0 < c.number
  pub found : LogRecord
  pub here : slice_get log (c.number - 1) ≡ Some found
  pub own : found.txn ≡ t
  pub after : Image
  pub says : found.payload ≡ Change c.id c.before after
  pub before : unanswered t (take (c.number - 1) log) ≡ older

abbrev pub IsUndoChain : List LogRecord → ℕ → List UnansweredChange → Type 0
IsUndoChain log t [] = Unit {0}
IsUndoChain log t (c ∷ cs) = IsChangeAt log t c cs × IsUndoChain log t cs

-- the number that is to be undone next by record n: a Change is next itself, and a Compensation names one
abbrev pub next_named_by : ℕ → Payload → ℕ
next_named_by n (Change id before image) = n
next_named_by n (Compensation id image undo_next) = undo_next
next_named_by n _ = 0

-- of what is left to undo, the transaction's last record gives the next number
pub record LastNamesNext (log : List LogRecord) (t : ℕ) : Type 0 where
  pub is_one : 0 < last_of t log
  pub found : LogRecord
  pub here : slice_get log (last_of t log - 1) ≡ Some found
  pub own : found.txn ≡ t
  pub next : undo_next_of (unanswered t log) ≡ next_named_by (last_of t log) found.payload
