-- A log whose front is cut off, with a record of nobody in the place of each that is cut off. The kept records have the numbers there that they have in the
-- whole log, so what is said of the numbers of a log may be said of it.
use Rattle.std.specs.Prelude.{ℕ, zero, suc, List, ◌∷◌}
use Rattle.shore_model.specs.declared.log_records.LogRecord.{LogRecord}
use Rattle.shore_model.specs.declared.log_records.Payload.TheVariants.{CheckpointBegin}

abbrev pub blank : LogRecord
blank = record { txn = 0; previous = 0; payload = CheckpointBegin }

abbrev pub padded : ℕ → List LogRecord → List LogRecord
padded zero kept = kept
padded (suc n) kept = blank ∷ padded n kept
