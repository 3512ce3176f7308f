-- How the parts of a core beside its pages stand for a state.
use Rattle.std.specs.Prelude.{◌≡◌, ℕ, List, ◌++◌, Bool}
use Rattle.shore_model.specs.declared.log_records.LogRecord.{LogRecord}
use Rattle.laws_calls.specs.States.{State}
use Rattle.shore_sessions.specs.declared.control.Control.{Control}
use Rattle.shore_sessions.specs.Standing.{HasControl}

-- the transactions with their locks and waits, the records that wait behind those before them, what was told, and whether a device has failed
pub record HasParts (control : Control) (waiting : List LogRecord) (durable : ℕ) (failed : Bool) (before : List LogRecord) (s : State) : Type 0 where
  pub stands : HasControl control s
  pub log : s.log ≡ before ++ waiting
  pub durable_is : s.durable ≡ durable
  pub failed_is : s.failed ≡ failed
