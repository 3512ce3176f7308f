-- The room that a log leaves in its stream.
use Rattle.std.specs.Prelude.{◌≡◌, ◌<◌, ◌≤◌, ◌+◌, ℕ, List, length}
use Rattle.shore_types.specs.declared.layout.TheConstants.{LAST_OPENED, LONGEST_FRAME, MAX_LOG_BYTES}
use Rattle.shore_model.specs.declared.log_records.LogRecord.{LogRecord}
use Rattle.laws_calls.specs.States.{cost_of_log}
use Rattle.shore_analysis.specs.Padded.{padded}
use Rattle.shore_txn.specs.declared.log_room.LogRoom.{LogRoom}
use Rattle.shore_restart.specs.Doubts.{reserved_told}

-- the sums of a room
pub record HasSums (stream_bytes kept reserved : ℕ) (room : LogRoom) : Type 0 where
  pub stream : room.stream_bytes ≡ stream_bytes
  pub kept_is : room.kept ≡ kept
  pub reserved_is : room.reserved ≡ reserved

-- The records that are kept behind so many that are cut off leave room for the longest frame in a stream of this length, beside what those in doubt have
-- reserved, and numbers for one record more and for all that is reserved.
pub record LeavesRoom (cut : ℕ) (kept : List LogRecord) (stream_bytes : ℕ) : Type 0 where
  pub frame : cost_of_log kept + reserved_told (padded cut kept) + LONGEST_FRAME ≤ stream_bytes
  pub numbers : cut + length kept + reserved_told (padded cut kept) < LAST_OPENED
  pub short : stream_bytes ≤ MAX_LOG_BYTES

-- the sums of such a log, with nobody under way but those in doubt
pub record IsRoomBehind (cut : ℕ) (kept : List LogRecord) (stream_bytes : ℕ) (room : LogRoom) : Type 0 where
  pub leaves : LeavesRoom cut kept stream_bytes
  pub stream : room.stream_bytes ≡ stream_bytes
  pub kept_is : room.kept ≡ cost_of_log kept
  pub reserved : room.reserved ≡ reserved_told (padded cut kept)
