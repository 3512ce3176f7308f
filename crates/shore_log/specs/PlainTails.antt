-- What a plain log buffer has.
use Rattle.std.specs.Prelude.{ℕ, List}
use Rattle.shore_model.specs.declared.log_records.LogRecord.{LogRecord}
use Rattle.shore_log.specs.Listed.{listed}
use Rattle.shore_log.specs.declared.tail.PlainTail.{PlainTail}
use Rattle.shore_log.specs.declared.tail.Told.{Told}

-- the number of the first record that waits, or that the next will have
abbrev pub first_of : PlainTail → ℕ
first_of t = t.first

-- the records that wait
abbrev pub waiting_in : PlainTail → List LogRecord
waiting_in t = listed t.waiting.items

-- what it was told of the log device
abbrev pub told_in : PlainTail → Told
told_in t = t.told
