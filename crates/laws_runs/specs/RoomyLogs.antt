-- Which logs a restart takes: pages and log have room for what they say and for the undo of all that are not decided, what they say is in bounds, and
-- those in doubt can hold their locks.
use Rattle.std.specs.Prelude.{◌≡◌, ◌⊎◌, ◌≤◌, ◌+◌, ◌*◌, ℕ, List, All, length, take, true}
use Rattle.std.specs.FinMap.{get}
use Rattle.shore_types.specs.declared.ids.Rid.{Rid}
use Rattle.shore_types.specs.declared.layout.Geometry.{Geometry}
use Rattle.shore_types.specs.declared.layout.TheConstants.{ENDING_COST, LONGEST_FRAME}
use Rattle.shore_model.specs.declared.log_records.LogRecord.{LogRecord}
use Rattle.shore_model.specs.Logs.{image_of_record, is_in_doubt}
use Rattle.shore_model.specs.Records.{Records}
use Rattle.laws_lives.specs.Doubts.{NeedMore, doubts_in}
use Rattle.laws_lives.specs.LogTells.{MatchesUndo}
use Rattle.laws_lives.specs.Sessions.{SessionTxn, txns_of}
use Rattle.laws_lives.specs.Views.{IsAmong}
use Rattle.laws_room.specs.Claims.{Claimed}
use Rattle.laws_room.specs.LogRooms.{HasLogRoom, LogRoom, owed_by_all}
use Rattle.laws_lives.specs.Undo.{IsLoser}
use Rattle.shore_analysis.specs.Meant.{IsCrowded, IsInBounds}
use Rattle.laws_calls.specs.States.{cost_of_log}
use Rattle.laws_runs.specs.SlotCounts.{slot_count}

-- the room of a log in a stream of so many bytes: what its records take, and what is reserved for the undo and the ending of these transactions, and for
-- each in doubt an ending more
abbrev pub room_of_log : ℕ → List LogRecord → List SessionTxn → LogRoom
room_of_log stream_bytes log undos = record {
  kept = cost_of_log log;
  reserved = owed_by_all undos + ENDING_COST * length (doubts_in log);
  stream_bytes = stream_bytes;
  last_lsn = length log;
}

-- The log has not decided the transaction: it is a loser, which a restart rolls back, or in doubt, which a resolve may roll back.
abbrev pub IsUndecided : List LogRecord → ℕ → Type 0
IsUndecided log t = IsLoser log t ⊎ (is_in_doubt t log ≡ true)

-- the transactions are those that the log has not decided, each with the before images of its unanswered Changes as its undo list
pub record AreUndecided (log : List LogRecord) (undos : List SessionTxn) : Type 0 where
  pub each : (a : SessionTxn) → IsAmong a undos → IsUndecided log a.txn × MatchesUndo log a.txn a.undo.images
  pub every : (t : ℕ) → IsUndecided log t → IsAmong t (txns_of undos)

-- The pages have room for the records that the log leaves, and for what may come back by undo of its losers and of those in doubt. Ids and granules lie in
-- the geometry, transactions have numbers that one may have, each kind is served, and no more transactions have not ended than there may be.
pub record IsPlacedLog (g : Geometry) (log : List LogRecord) : Type 0 where
  pub records : Records
  pub shown : (id : Rid) → get records id ≡ image_of_record log id
  pub undos : List SessionTxn
  pub undecided : AreUndecided log undos
  pub pages : Claimed g.version records undos (slot_count log)
  pub inside : All (IsInBounds g) log
  pub few : IsCrowded log → ⊥

-- .. and the stream has room for the log, for that undo, and for the longest frame besides. The locks of those in doubt, as their Prepares name them, take
-- no more places in the lock table than it may have.
pub record IsRoomyLog (g : Geometry) (stream_bytes : ℕ) (log : List LogRecord) : Type 0 where
  pub placed : IsPlacedLog g log
  pub room : HasLogRoom LONGEST_FRAME (length (doubts_in log)) placed.undos (room_of_log stream_bytes log placed.undos)
  pub locks : NeedMore g.max_locks (doubts_in log) → ⊥

-- The log is roomy, and so is each of its prefixes that a crash may leave, which have so many records at least. Of shorter ones the stream's room is not
-- asked: a Commit gives away what was reserved before it. Nor are locks, which come back to those whom the log has in doubt at its end. But redo comes by
-- each, and analysis refuses a crowd at any.
pub record AreRoomy (g : Geometry) (stream_bytes least : ℕ) (log : List LogRecord) : Type 0 where
  pub placed : (n : ℕ) → IsPlacedLog g (take n log)
  pub roomy : (n : ℕ) → least ≤ n → IsRoomyLog g stream_bytes (take n log)
