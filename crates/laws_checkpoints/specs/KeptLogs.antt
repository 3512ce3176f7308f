-- A log whose front is cut off. The whole log stays what everything is said of; a device gives the records behind the cut, and each keeps
-- the number that it has in the whole log.
use Rattle.std.specs.Prelude.{◌≡◌, ◌<◌, ◌≤◌, ◌+◌, ◌==◌, ◌&&◌, ℕ, List, Bool, true, false, filter, reverse, take, length, if◌then◌else◌}
use Rattle.std.specs.List.{list_any, enumerate_from}
use Rattle.shore_model.specs.declared.unanswered_changes.UnansweredChange.{UnansweredChange}
use Rattle.shore_model.specs.declared.log_records.LogRecord.{LogRecord}
use Rattle.shore_model.specs.Logs.{first_number, is_in_doubt, is_over, is_prepare, unanswered_in}
use Rattle.laws_lives.specs.Pages.{LoggedPages, PagesLackNone}
use Rattle.laws_lives.specs.Undo.{undo_payload}

-- ---- what the kept records tell of a transaction

-- the records behind the cut, with their numbers
abbrev pub numbered_behind : ℕ → List LogRecord → List (ℕ × LogRecord)
numbered_behind cut kept = enumerate_from (cut + 1) kept

-- a transaction's, among them
abbrev pub kept_records_of : ℕ → ℕ → List LogRecord → List (ℕ × LogRecord)
kept_records_of cut t kept = filter (λ r. r.1.txn == t) (numbered_behind cut kept)

abbrev pub kept_first_of : ℕ → ℕ → List LogRecord → ℕ
kept_first_of cut t kept = first_number (kept_records_of cut t kept)

abbrev pub kept_last_of : ℕ → ℕ → List LogRecord → ℕ
kept_last_of cut t kept = first_number (reverse (kept_records_of cut t kept))

-- the number that its next record names
abbrev pub kept_previous_of : ℕ → ℕ → List LogRecord → ℕ
kept_previous_of cut t kept = if t == 0 then 0 else kept_last_of cut t kept

abbrev pub kept_prepare_number : ℕ → ℕ → List LogRecord → ℕ
kept_prepare_number cut t kept = first_number (filter (λ r. (r.1.txn == t) && is_prepare r.1.payload) (numbered_behind cut kept))

abbrev pub kept_unanswered : ℕ → ℕ → List LogRecord → List UnansweredChange
kept_unanswered cut t kept = unanswered_in (reverse (kept_records_of cut t kept))

-- the next record of its undo
abbrev pub kept_undo_record : ℕ → List LogRecord → ℕ → LogRecord
kept_undo_record cut kept t = record { txn = t; previous = kept_last_of cut t kept; payload = undo_payload (kept_unanswered cut t kept) }

-- it has a record there, and none of its records there ends it
pub record IsKeptUnended (cut : ℕ) (kept : List LogRecord) (t : ℕ) : Type 0 where
  pub is_one : 0 < t
  pub known : 0 < kept_last_of cut t kept
  pub not_over : is_over t kept ≡ false

-- a loser, by the kept records alone
pub record IsKeptLoser (cut : ℕ) (kept : List LogRecord) (t : ℕ) : Type 0 where
  pub unended : IsKeptUnended cut kept t
  pub not_in_doubt : is_in_doubt t kept ≡ false

abbrev pub KeepsNoLosers : ℕ → List LogRecord → Type 0
KeepsNoLosers cut kept = (t : ℕ) → IsKeptLoser cut kept t → ⊥

-- ---- where a front may be cut off

-- a transaction has a record in the list
abbrev pub has_record : ℕ → List LogRecord → Bool
has_record t rs = list_any (λ r. r.txn == t) rs

-- So many first records may be cut off: none of them is missing on a page of the volume, and each transaction with one of them has ended.
-- Who is in doubt has not.
pub record MayBeCut (log : List LogRecord) (volume : LoggedPages) (cut : ℕ) : Type 0 where
  pub within : cut ≤ length log
  pub on_pages : PagesLackNone log cut volume
  pub ended : (t : ℕ) → 0 < t → has_record t (take cut log) ≡ true → is_over t log ≡ true
