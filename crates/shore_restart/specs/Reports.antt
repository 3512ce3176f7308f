-- What a restart reports.
use Rattle.std.specs.Prelude.{◌≡◌, ◌≤◌, ℕ, List, filter, length}
use Rattle.shore_model.specs.declared.log_records.LogRecord.{LogRecord}
use Rattle.shore_analysis.specs.Losers.{is_of_loser}
use Rattle.shore_analysis.specs.Padded.{padded}
use Rattle.shore_analysis.specs.KeptTables.{AreKeptTables}
use Rattle.shore_analysis.specs.declared.kept_tables.KeptTables.{KeptTables}
use Rattle.shore_analysis.specs.Doubts.{doubts_left}
use Rattle.shore_restart.specs.declared.passes.Report.{Report}

-- how many records were kept behind those that are cut off, no more of them redone, how many losers there were, and how many in doubt
pub record IsReportOf (cut checkpoint : ℕ) (kept : List LogRecord) (report : Report) : Type 0 where
  pub read : report.read ≡ length kept
  pub redone : report.redone ≤ report.read
  pub undone : (tables : KeptTables) × AreKeptTables cut checkpoint kept tables × (report.undone ≡ length (filter is_of_loser tables.txns))
  pub in_doubt : report.in_doubt ≡ length (doubts_left (padded cut kept))
