-- A run worked by hand over an empty volume: a transaction has inserted a record. While its commit is under way the log device takes the Commit in already, and a force makes it durable.
use Rattle.std.specs.Prelude.{ℕ, List, [], ◌∷◌, None, Some}
use Rattle.shore_model.specs.declared.calls.Answer.TheVariants.{Began, Committed, Inserted}
use Rattle.shore_model.specs.declared.calls.Call.TheVariants as call
use Rattle.shore_model.specs.declared.log_records.LogRecord.{LogRecord}
use Rattle.shore_model.specs.declared.log_records.Payload.TheVariants.{Change, Commit}
use Rattle.shore_model.specs.declared.step.Step.TheVariants.{Done}
use Rattle.laws_lives.specs.Recovery.{AppendRecord}
use Rattle.laws_calls.specs.Events.{Called}
use Rattle.laws_calls.specs.WorkedRun.{first_id}
use Rattle.laws_runs.specs.CheckpointSteps.{CheckpointedMove, Goes}
use Rattle.laws_runs.specs.StoredRuns.{Manage}

abbrev pub its_insert : List ℕ → LogRecord
its_insert bytes = record { txn = 1; previous = 0; payload = Change first_id None (Some bytes) }

abbrev pub its_commit : LogRecord
its_commit = record { txn = 1; previous = 1; payload = Commit }

abbrev pub begun_and_inserted : List ℕ → List CheckpointedMove
begun_and_inserted bytes =
    Goes (Manage (Called 1 call.Begin (Done (Began 1))) []) ∷ Goes (Manage (Called 1 (call.Insert 0 bytes) (Done (Inserted first_id))) (AppendRecord (its_insert bytes) ∷ [])) ∷ []

abbrev pub commit_under_way : CheckpointedMove
commit_under_way = Goes (Manage (Called 1 call.Commit (Done (Committed 2))) (AppendRecord its_commit ∷ []))
