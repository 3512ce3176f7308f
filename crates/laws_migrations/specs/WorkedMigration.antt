-- A migration worked by hand: of a pair with one record committed, and one that a transaction in doubt has inserted.
use Rattle.std.specs.Prelude.{ℕ, List, [], ◌∷◌, None, Some}
use Rattle.shore_types.specs.declared.locking.Granule.{Granule}
use Rattle.shore_model.specs.declared.log_records.LogRecord.{LogRecord}
use Rattle.shore_model.specs.declared.log_records.LogTxn.{LogTxn}
use Rattle.shore_model.specs.declared.log_records.Payload.TheVariants.{Change, CheckpointBegin, CheckpointEnd, Commit, Prepare}
use Rattle.shore_model.specs.declared.log_records.TxnState.TheVariants as state
use Rattle.laws_calls.specs.WorkedRun.{first_id}
use Rattle.laws_runs.specs.WorkedLogs.{second_id}
use Rattle.laws_migrations.specs.MigratedLogs.{MigratedDoubt, Written}

module _ (a b global : List ℕ) (granules : List Granule) where
  -- transaction 1 has inserted the first record and committed; 2 has inserted the second one, and is in doubt
  abbrev pub read_log : List LogRecord
  read_log =
      record { txn = 1; previous = 0; payload = Change first_id None (Some a) }
      ∷ record { txn = 1; previous = 1; payload = Commit }
      ∷ record { txn = 2; previous = 0; payload = Change second_id None (Some b) }
      ∷ record { txn = 2; previous = 3; payload = Prepare global granules } ∷ []

  abbrev pub second_written : Written
  second_written = record { id = second_id; before = None; after = Some b }

  abbrev pub doubt_with : List Written → MigratedDoubt
  doubt_with ws = record { txn = 2; global = global; granules = granules; writes = ws }

  abbrev pub read_doubt : MigratedDoubt
  read_doubt = doubt_with (second_written ∷ [])

  -- the table of the new checkpoint: transaction 2 has records 3 and 4
  abbrev pub read_table : List LogTxn
  read_table = record { txn = 2; state = state.Prepared; first = 3; last = 4; undo_next = 3; prepare = 4 } ∷ []

  -- the new log: the number that is free is 3
  abbrev pub written_log : List LogRecord
  written_log =
      record { txn = 3; previous = 0; payload = Change first_id None (Some a) }
      ∷ record { txn = 3; previous = 1; payload = Commit }
      ∷ record { txn = 2; previous = 0; payload = Change second_id None (Some b) }
      ∷ record { txn = 2; previous = 3; payload = Prepare global granules }
      ∷ record { txn = 0; previous = 0; payload = CheckpointBegin }
      ∷ record { txn = 0; previous = 0; payload = CheckpointEnd 5 4 read_table [] } ∷ []

  -- a log that has committed what was in doubt
  abbrev pub committing_log : List LogRecord
  committing_log =
      record { txn = 3; previous = 0; payload = Change first_id None (Some a) }
      ∷ record { txn = 3; previous = 1; payload = Commit }
      ∷ record { txn = 2; previous = 0; payload = Change second_id None (Some b) }
      ∷ record { txn = 2; previous = 3; payload = Commit } ∷ []
