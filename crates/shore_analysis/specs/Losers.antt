-- What undo knows of the transactions that it still has to end, by the log as it has become.
use Rattle.std.specs.Prelude.{◌≡◌, ◌⊎◌, ◌<◌, ◌≤◌, ◌+◌, ◌==◌, ◌++◌, ℕ, List, [], ◌∷◌, Bool, length, map, not, take, true, if◌then◌else◌}
use Rattle.std.specs.List.{AllByRecursion}
use Rattle.shore_model.specs.declared.log_records.LogRecord.{LogRecord}
use Rattle.shore_model.specs.declared.log_records.LogTxn.{LogTxn}
use Rattle.shore_model.specs.Logs.{is_over, is_prepared, last_of, unanswered, undo_next_of}
use Rattle.laws_lives.specs.Views.{IsAmong}
use Rattle.laws_lives.specs.Undo.{IsLoser, undo_record}
use Rattle.laws_checkpoints.specs.KeptLogs.{has_record}
use Rattle.shore_analysis.specs.declared.losers.Losers.{Losers}

-- the entry is a loser's, with the numbers of its last record and of its Change to be undone next
pub record IsEntryOfLoser (log : List LogRecord) (e : LogTxn) : Type 0 where
  pub loser : IsLoser log e.txn
  pub last : e.last ≡ last_of e.txn log
  pub undo_next : e.undo_next ≡ undo_next_of (unanswered e.txn log)

-- whoever has a record among so many first ones has ended
abbrev pub CutsOffEnded : ℕ → List LogRecord → Type 0
CutsOffEnded cut log = (cut ≤ length log) × ((t : ℕ) → 0 < t → has_record t (take cut log) ≡ true → is_over t log ≡ true)

-- the entries are those of the losers, of each one
pub record AreEntriesOfLosers (log : List LogRecord) (entries : List LogTxn) : Type 0 where
  pub each : AllByRecursion (IsEntryOfLoser log) entries
  pub every : (t : ℕ) → IsLoser log t → IsAmong t (map (λ e. e.txn) entries)

abbrev pub HasLosers : List LogRecord → Losers → Type 0
HasLosers log losers = AreEntriesOfLosers log losers.entries.items

-- a loser with the first number to be undone next need not wait for one with the second: it has nothing left to be undone, or the other has
-- something, and nothing newer
abbrev pub NeedNotWait : ℕ → ℕ → Type 0
NeedNotWait one other = (one ≡ 0) ⊎ ((0 < other) × (other ≤ one))

-- A loser whose turn it may be: one with nothing left to be undone, or if there is none, the one whose Change to be undone next is the newest.
-- So an End follows its last Compensation at once, and undo goes down the log once for all losers (ARIES).
abbrev pub IsNextToUndo : List LogRecord → ℕ → Type 0
IsNextToUndo log t = (u : ℕ) → IsLoser log u → NeedNotWait (undo_next_of (unanswered t log)) (undo_next_of (unanswered u log))

-- the losers take these turns, each when it is next to undo, and the log has become the last one
abbrev pub IsUndoneInOrder : List LogRecord → List ℕ → List LogRecord → Type 0
IsUndoneInOrder log [] last = last ≡ log
IsUndoneInOrder log (t ∷ ts) last = IsLoser log t × IsNextToUndo log t × IsUndoneInOrder (log ++ undo_record log t ∷ []) ts last

-- how many records of undo the entries' transactions still get: one for each unanswered Change, and an End
abbrev pub turns_left_of : List LogRecord → List LogTxn → ℕ
turns_left_of log [] = 0
turns_left_of log (e ∷ es) = 1 + length (unanswered e.txn log) + turns_left_of log es

abbrev pub turns_left : List LogRecord → Losers → ℕ
turns_left log losers = turns_left_of log losers.entries.items

-- an entry, with these numbers if it is the transaction's
abbrev pub with_numbers : ℕ → ℕ → ℕ → LogTxn → LogTxn
with_numbers t last undo_next e = if e.txn == t then record e { last = last; undo_next = undo_next } else e

-- an entry that is not of one in doubt
abbrev pub is_of_loser : LogTxn → Bool
is_of_loser e = not (is_prepared e.state)

-- an entry of another transaction
abbrev pub is_another : ℕ → LogTxn → Bool
is_another t e = not (e.txn == t)
