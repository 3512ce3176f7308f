-- Undo of the losers at a restart: the records that it appends (ARIES: compensation log records), one after another.
use Rattle.std.specs.Prelude.{◌≡◌, ◌<◌, ◌++◌, ℕ, List, [], ◌∷◌, false}
use Rattle.shore_model.specs.declared.unanswered_changes.UnansweredChange.{UnansweredChange}
use Rattle.shore_model.specs.declared.log_records.LogRecord.{LogRecord}
use Rattle.shore_model.specs.declared.log_records.Payload.{Payload}
use Rattle.shore_model.specs.declared.log_records.Payload.TheVariants.{Compensation, End}
use Rattle.shore_model.specs.Logs.{is_over, is_in_doubt, last_of, unanswered, undo_next_of}

-- a loser (ARIES: loser transaction): it has left a record, and neither ended nor came to be in doubt
pub record IsLoser (log : List LogRecord) (t : ℕ) : Type 0 where
  pub is_one : 0 < t
  pub known : 0 < last_of t log
  pub not_over : is_over t log ≡ false
  pub not_in_doubt : is_in_doubt t log ≡ false

-- The next record of undo: it puts back what the newest unanswered Change overwrote, and names the one below as undo-next. If none is
-- left, it is the End.
abbrev pub undo_payload : List UnansweredChange → Payload
undo_payload [] = End
undo_payload (c ∷ cs) = Compensation c.id c.before (undo_next_of cs)

abbrev pub undo_record : List LogRecord → ℕ → LogRecord
undo_record log t = record { txn = t; previous = last_of t log; payload = undo_payload (unanswered t log) }

-- The losers take these turns, a record in each, and the log has become the last one. Any order of turns will do.
abbrev pub IsUndoneTo : List LogRecord → List ℕ → List LogRecord → Type 0
IsUndoneTo log [] last = last ≡ log
IsUndoneTo log (t ∷ ts) last = IsLoser log t × IsUndoneTo (log ++ undo_record log t ∷ []) ts last

-- nobody is left to be undone, nor to be ended
abbrev pub HasNoLosers : List LogRecord → Type 0
HasNoLosers log = (t : ℕ) → IsLoser log t → ⊥
