-- States of a manager of whose log a crash leaves only what a restart takes.
use Rattle.shore_types.specs.Layout.{HasGranule}
use Rattle.shore_types.specs.Versions.{slot_limit}
use Rattle.std.specs.Prelude.{◌≡◌, ◌<◌, ◌≤◌, ℕ, List, All, length, map}
use Rattle.std.specs.FinMap.{get}
use Rattle.std.specs.List.{AllByRecursion}
use Rattle.shore_types.specs.declared.ids.PageId.{PageId}
use Rattle.shore_types.specs.declared.ids.Rid.{Rid}
use Rattle.shore_types.specs.declared.layout.Geometry.{Geometry}
use Rattle.shore_types.specs.declared.layout.TheConstants.{LAST_TXN}
use Rattle.shore_model.specs.declared.log_records.LogRecord.{LogRecord}
use Rattle.shore_model.specs.Logs.{image_of_record}
use Rattle.laws_lives.specs.Doubts.{doubts_in, pair_logged, undo_in}
use Rattle.laws_lives.specs.Sessions.{SessionTxn, pairs_of, txns_of}
use Rattle.laws_lives.specs.Undo.{IsLoser}
use Rattle.laws_lives.specs.Views.{IsAmong}
use Rattle.laws_lives.specs.WholeLogs.{IsWholeLog}
use Rattle.laws_calls.specs.States.{State}
use Rattle.laws_runs.specs.RoomyLogs.{AreRoomy}
use Rattle.laws_runs.specs.SlotCounts.{slot_count}

-- the lock table may have no more requests than the geometry says, and has no more than it may have, each for a granule that is there
pub record HasLocksInBounds (g : Geometry) (s : State) : Type 0 where
  pub limit : s.locks.limit ≤ g.max_locks
  pub within : length s.locks.requests ≤ s.locks.limit
  pub inside : All (λ r. HasGranule g r.granule) s.locks.requests

-- The state is over a stream of so many bytes, and the prefixes of its log that have so many records at least are roomy there. The pages have the slots
-- that the log gave them, whoever is in the log and has not ended is under way, also one that has changed nothing and is rolled back by a resolve. The next
-- transaction's number may be one above the last that a record may have, and the lock table is in bounds: so a Prepare names granules that are there.
pub record LeavesRoomyLogsFrom (g : Geometry) (stream_bytes least : ℕ) (s : State) : Type 0 where
  pub as_long : s.stream_bytes ≡ stream_bytes
  pub prefixes : AreRoomy g stream_bytes least s.log
  pub counts : (p : PageId) → s.counts p ≡ slot_count s.log p
  pub whole : IsWholeLog s.log s.sessions
  pub losers : (t : ℕ) → IsLoser s.log t → IsAmong t (txns_of s.sessions.active)
  pub txns : s.sessions.next_txn ≤ LAST_TXN
  pub locks : HasLocksInBounds g s

-- .. those that a crash may leave, from the durable number on
abbrev pub LeavesRoomyLogs : Geometry → ℕ → State → Type 0
LeavesRoomyLogs g stream_bytes s = LeavesRoomyLogsFrom g stream_bytes s.durable s

-- What an open makes of a log over a stream of so many bytes: what the log leaves is in place, those in doubt are under way and nobody else, with the
-- undo lists that the log gives them. Each page has the slots that the log gave it, the next transaction's number is the least above
-- all of the log's, and the lock table is in bounds.
pub record IsOpenedFrom (g : Geometry) (stream_bytes : ℕ) (found : List LogRecord) (s : State) : Type 0 where
  pub slots : s.sessions.slots ≡ slot_limit g.version
  pub log : s.log ≡ found
  pub as_long : s.stream_bytes ≡ stream_bytes
  pub records : (id : Rid) → get s.sessions.records id ≡ image_of_record found id
  pub prepared : pairs_of s.sessions.prepared ≡ map pair_logged (doubts_in found)
  pub active : txns_of s.sessions.active ≡ map (λ d. d.txn) (doubts_in found)
  pub undo_lists : (a : SessionTxn) → IsAmong a s.sessions.active → a.undo ≡ undo_in found a.txn
  pub counts : (p : PageId) → s.counts p ≡ slot_count found p
  pub some : 0 < s.sessions.next_txn
  pub least : (n : ℕ) → 0 < n → AllByRecursion (λ r. r.txn < n) found → s.sessions.next_txn ≤ n
  pub locks : HasLocksInBounds g s
