-- What a reader of records answers.
use Rattle.std.specs.Prelude.{◌≡◌, List, ℕ, Result, Ok, Err}
use Rattle.std.specs.Global.{Vec}
use Rattle.shore_model.specs.declared.log_records.LogRecord.{LogRecord}
use Rattle.shore_frames.specs.declared.reading.ReadError.{ReadError}
use Rattle.shore_frames.specs.declared.reading.ReadError.TheVariants.{Memory, NoText}

-- these are read, unless memory ran out
abbrev pub Reads : Result (Vec LogRecord) ReadError → List LogRecord → Type 0
Reads (Ok v) rs = v.items ≡ rs
Reads (Err Memory) rs = Unit {0}
Reads (Err NoText) rs = ⊥

-- this record is read, and these bytes are left, unless memory ran out
abbrev pub ReadsOne : {X : Type 0} → (X → LogRecord) → (X → List ℕ) → Result X ReadError → LogRecord → List ℕ → Type 0
ReadsOne one left (Ok x) r rest = (one x ≡ r) × (left x ≡ rest)
ReadsOne one left (Err Memory) r rest = Unit {0}
ReadsOne one left (Err NoText) r rest = ⊥
