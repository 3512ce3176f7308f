-- The checkpoint that the anchor names, in what is kept of a log, and what is kept tells of the whole log.
use Rattle.std.specs.Prelude.{◌≡◌, ◌⊎◌, ◌+◌, ◌<◌, ℕ, List, drop, take, true}
use Rattle.shore_model.specs.declared.log_records.LogRecord.{LogRecord}
use Rattle.shore_model.specs.Logs.{is_in_doubt}
use Rattle.laws_checkpoints.specs.KeptLogs.{IsKeptUnended, has_record}
use Rattle.laws_checkpoints.specs.StoresInOrder.{IsCheckpointKept}
use Rattle.shore_analysis.specs.Losers.{CutsOffEnded}

-- none is named; or what is kept behind so many has its begin, which has this number, and its End
abbrev pub HasCheckpoint : ℕ → ℕ → List LogRecord → Type 0
HasCheckpoint cut checkpoint kept = (checkpoint ≡ 0) ⊎ IsCheckpointKept (record { checkpoint = checkpoint; tail = cut + 1 }) kept

-- Who has a record among so many first ones has ended, and runs by the others no more; and who is in doubt is a transaction. So the others tell who has not ended.
pub record EndsBehind (cut : ℕ) (log : List LogRecord) : Type 0 where
  pub cuts : CutsOffEnded cut log
  pub none_runs : (t : ℕ) → 0 < t → has_record t (take cut log) ≡ true → IsKeptUnended cut (drop cut log) t → ⊥
  pub some : (t : ℕ) → is_in_doubt t log ≡ true → 0 < t
