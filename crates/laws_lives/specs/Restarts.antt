-- What a restart may do: every step of the machine, crashes among them, if the records that it appends are records of undo.
use Rattle.std.specs.Prelude.{◌≡◌, ◌≤◌, ℕ, List, [], ◌∷◌, length}
use Rattle.shore_model.specs.declared.log_records.LogRecord.{LogRecord}
use Rattle.laws_lives.specs.Recovery.{RecoveryState, RecoveryEvent, AppendRecord, LeadsTo}
use Rattle.laws_lives.specs.Undo.{IsLoser, IsUndoneTo, undo_record}

-- a restart appends nothing but records of undo
abbrev pub IsRestartStep : RecoveryState → RecoveryEvent → Type 0
IsRestartStep s (AppendRecord r) = (t : ℕ) × IsLoser s.log t × (r ≡ undo_record s.log t)
IsRestartStep s _ = Unit {0}

abbrev pub RestartsTo : RecoveryState → List RecoveryEvent → RecoveryState → Type 0
RestartsTo s [] last = last ≡ s
RestartsTo s (e ∷ events) last = IsRestartStep s e × (new : RecoveryState) × LeadsTo s e new × RestartsTo new events last

-- The log is the one that the first restart found, with records of undo behind it. What was found is durable, and those records need not be.
pub record IsRestartOf (found : List LogRecord) (s : RecoveryState) : Type 0 where
  pub turns : List ℕ
  pub undone : IsUndoneTo found turns s.log
  pub durable : length found ≤ s.durable
