-- What a migrated log asks of the new pair's ring.
use Rattle.std.specs.Prelude.{◌<◌, ◌≤◌, ◌+◌, ℕ, List, [], ◌∷◌, drop, length, map}
use Rattle.shore_types.specs.Images.{Image}
use Rattle.shore_types.specs.declared.ids.Rid.{Rid}
use Rattle.shore_types.specs.declared.layout.TheConstants.{ENDING_COST, LAST_OPENED, LONGEST_FRAME, MAX_LOG_BYTES}
use Rattle.shore_model.specs.declared.log_records.LogTxn.{LogTxn}
use Rattle.shore_model.specs.Records.{Records}
use Rattle.laws_calls.specs.States.{cost_of_log}
use Rattle.laws_checkpoints.specs.Checkpoints.{cut_of}
use Rattle.laws_room.specs.LogRooms.{compensation_costs}
use Rattle.laws_migrations.specs.MigratedLogs.{MigratedDoubt, Written, migrated_anchor, migrated_log}

-- what comes back if the change is undone
abbrev pub overwritten : Written → Rid × Image
overwritten w = (w.id, w.before)

-- What is reserved for those in doubt: for each the undo of what it has changed, its ending, and a Rollback decided before that.
abbrev pub owed_for : List MigratedDoubt → ℕ
owed_for [] = 0
owed_for (d ∷ ds) = ENDING_COST + ENDING_COST + compensation_costs (map overwritten d.writes) + owed_for ds

-- A ring of so many bytes has room for what is kept of the log, for what is reserved and for the longest frame, and there are numbers for all of it.
pub record FitsRing (ring_bytes t : ℕ) (records : Records) (doubts : List MigratedDoubt) (txns : List LogTxn) : Type 0 where
  pub fits : cost_of_log (drop (cut_of (migrated_anchor t records doubts)) (migrated_log t records doubts txns)) + owed_for doubts + LONGEST_FRAME ≤ ring_bytes
  pub short : ring_bytes ≤ MAX_LOG_BYTES
  pub numbers : length (migrated_log t records doubts txns) + owed_for doubts < LAST_OPENED
