-- The turns of undo: what undo works with, and why it may end before a loser is undone.
use Rattle.std.specs.Prelude.{◌≡◌, ◌⊎◌, ◌<◌, ◌++◌, ◌∷◌, [], ℕ, List, drop, length}
use Rattle.shore_types.specs.declared.layout.Geometry.{Geometry}
use Rattle.shore_types.specs.declared.versions.Version.{Version}
use Rattle.shore_model.specs.declared.log_records.LogRecord.{LogRecord}
use Rattle.shore_model.specs.Logs.{unanswered, undo_next_of}
use Rattle.laws_lives.specs.Undo.{HasNoLosers, IsLoser, undo_record}
use Rattle.shore_analysis.specs.KeptMeant.{AreMeantKept}
use Rattle.laws_runs.specs.SlotCounts.{FitsBehind}
use Rattle.shore_analysis.specs.Losers.{HasLosers, IsNextToUndo, IsUndoneInOrder, turns_left}
use Rattle.shore_analysis.specs.Padded.{padded}
use Rattle.shore_restart.specs.declared.turns.Undo.{Undo}
use Rattle.shore_restart.specs.Doubts.{IsRefusedBy, IsTaken, IsUnkept}
use Rattle.shore_restart.specs.Errors.{DoesNotFit}
use Rattle.shore_restart.specs.Room.{IsRoomBehind, LeavesRoom}

-- kept records that analysis takes, with so many cut off before them, their losers, and their room in a stream of this length
pub record IsUndoOf (g : Geometry) (cut : ℕ) (kept : List LogRecord) (stream_bytes : ℕ) (undo : Undo) : Type 0 where
  pub meant : AreMeantKept g cut kept
  pub losers : HasLosers (padded cut kept) undo.losers
  pub room : IsRoomBehind cut kept stream_bytes undo.room

-- the log is one that was found, with turns of undo behind it, in their order
abbrev pub IsUndoneSoFar : List LogRecord → List LogRecord → Type 0
IsUndoneSoFar found log = (turns : List ℕ) × IsUndoneInOrder found turns log

-- a list goes on as a log has that became the later one
abbrev pub gone_on : List LogRecord → List LogRecord → List LogRecord → List LogRecord
gone_on mine log later = mine ++ drop (length log) later

-- the next record of undo of a loser that is next was appended, and fewer turns are left
pub record TakesTurn (log later : List LogRecord) (old new : Undo) : Type 0 where
  pub loser : ℕ
  pub is_one : IsLoser log loser
  pub next : IsNextToUndo log loser
  pub logged : later ≡ log ++ undo_record log loser ∷ []
  pub fewer : turns_left later new.losers < turns_left log old.losers

-- a loser's next record of undo leaves no room in a stream of this length
abbrev pub HasNoTurnRoom : ℕ → List LogRecord → ℕ → Type 0
HasNoTurnRoom cut kept stream_bytes = (t : ℕ) × IsLoser (padded cut kept) t × (LeavesRoom cut (kept ++ undo_record (padded cut kept) t ∷ []) stream_bytes → ⊥)

-- the Change of this number is to be undone next, and what its undo brings back does not fit its page
abbrev pub CannotUndo : Version → List LogRecord → ℕ → Type 0
CannotUndo v log n = (t : ℕ) × IsLoser log t × IsNextToUndo log t × (n ≡ undo_next_of (unanswered t log)) × (FitsBehind v log (undo_record log t).payload → ⊥)

-- each record of undo behind the log that was found fits its page, as the records before it leave that
abbrev pub TurnsFit : Version → List LogRecord → List LogRecord → Type 0
TurnsFit v found log = (n : ℕ) → length found < n → DoesNotFit v log n → ⊥

-- ---- why a restart is refused

-- The record of this number does not fit its page; or the records of undo so far fit theirs, and what its undo brings back is the first that does not; or all of them
-- do, and behind them there is no room for the image before it, which one in doubt may put back.
abbrev pub IsMisfit : Version → List LogRecord → ℕ → Type 0
IsMisfit v log n = DoesNotFit v log n
    ⊎ ((so_far : List LogRecord) × IsUndoneSoFar log so_far × TurnsFit v log so_far × (CannotUndo v so_far n ⊎ (HasNoLosers so_far × IsUnkept v so_far n)))

-- by it what is kept itself says that no restart may work on it; or one may, and it is such a misfit of the whole log
abbrev pub IsBadRecord : Geometry → ℕ → ℕ → List LogRecord → List LogRecord → ℕ → Type 0
IsBadRecord g cut checkpoint kept log n = IsRefusedBy g cut checkpoint kept n ⊎ (IsTaken g cut checkpoint kept × IsMisfit g.version log n)

-- what is kept leaves no room in a stream of this length, or it does with the records of undo so far but not with one more
abbrev pub LacksRoom : ℕ → List LogRecord → ℕ → Type 0
LacksRoom cut kept stream_bytes =
    (LeavesRoom cut kept stream_bytes → ⊥) ⊎ ((so_far : List LogRecord) × IsUndoneSoFar (padded cut kept) (padded cut so_far) × HasNoTurnRoom cut so_far stream_bytes)
