-- What is printed.
use Rattle.std.specs.Prelude.{ℕ, ◌+◌, ◌^◌, ◌-◌, min, Bool, List, [], ◌∷◌, ◌++◌, Option, None, Some, codes, false, length, true}
use Rattle.std.specs.Fmt.{decimal}
use Rattle.hex.specs.Hex.{encode_lower}
use Rattle.shore_model.specs.declared.calls.Answer.{Answer}
use Rattle.shore_model.specs.declared.calls.Answer.TheVariants as answer
use Rattle.shore_model.specs.declared.log_records.LogRecord.{LogRecord}
use Rattle.shore_model.specs.declared.log_records.Payload.{Payload}
use Rattle.shore_model.specs.declared.log_records.Payload.TheVariants as payload
use Rattle.shore_model.specs.declared.requests.Request.{Request}
use Rattle.shore_types.specs.Faults.{text_of}
use Rattle.shore_types.specs.Names.{granule_name, mode_name, rid_name}
use Rattle.shore_types.specs.declared.faults.Fault.{Fault}
use Rattle.shore_types.specs.declared.ids.Rid.{Rid}
use Rattle.shore_types.specs.declared.locking.Granule.{Granule}
use Rattle.shore_types.specs.declared.locking.Mode.{Mode}

-- the end of a line
abbrev pub line_end : List ℕ
line_end = 10 ∷ []

-- pairs of digits, or `-` if there is no byte
abbrev pub bytes_text : List ℕ → List ℕ
bytes_text [] = codes "-"
bytes_text (byte ∷ bytes) = encode_lower (byte ∷ bytes)

-- a record's id and bytes
abbrev pub record_line : Rid → List ℕ → List ℕ
record_line id bytes = rid_name id ++ (codes " " ++ (bytes_text bytes ++ line_end))

-- nothing if there is no record
abbrev pub some_record_line : Option (Rid × List ℕ) → List ℕ
some_record_line None = []
some_record_line (Some pair) = record_line pair.0 pair.1

abbrev pub record_lines : List (Rid × List ℕ) → List ℕ
record_lines [] = []
record_lines (pair ∷ pairs) = record_line pair.0 pair.1 ++ record_lines pairs

-- a global id, and who is in doubt by it
abbrev pub doubt_line : List ℕ → ℕ → List ℕ
doubt_line global txn = bytes_text global ++ (codes " " ++ (decimal txn ++ line_end))

abbrev pub doubt_lines : List (List ℕ × ℕ) → List ℕ
doubt_lines [] = []
doubt_lines (pair ∷ pairs) = doubt_line pair.0 pair.1 ++ doubt_lines pairs

-- what a session is answered; the steps that no session asks for have no text of their own
abbrev pub answer_text : Answer → List ℕ
answer_text (answer.Began txn) = codes "began " ++ (decimal txn ++ line_end)
answer_text (answer.Got bytes) = codes "bytes " ++ (bytes_text bytes ++ line_end)
answer_text (answer.Inserted id) = codes "at " ++ (rid_name id ++ line_end)
answer_text answer.Updated = codes "ok" ++ line_end
answer_text answer.Deleted = codes "ok" ++ line_end
answer_text (answer.Scanned pairs) = codes "scan " ++ (decimal (length pairs) ++ (line_end ++ record_lines pairs))
answer_text answer.Locked = codes "ok" ++ line_end
answer_text (answer.Saved index) = codes "savepoint " ++ (decimal index ++ line_end)
answer_text answer.WentBack = codes "ok" ++ line_end
answer_text (answer.Committed ticket) = codes "ticket " ++ (decimal ticket ++ line_end)
answer_text answer.Aborted = codes "aborted" ++ line_end
answer_text answer.Prepared = codes "prepared" ++ line_end
answer_text answer.Resolved = codes "resolved" ++ line_end
answer_text (answer.AreInDoubt found) = codes "indoubt " ++ (decimal (length found) ++ (line_end ++ doubt_lines found))
answer_text (answer.Staged number) = codes "ok" ++ line_end
answer_text (answer.Forced number) = codes "ok" ++ line_end
answer_text (answer.Flushed pages) = codes "ok" ++ line_end
answer_text (answer.Begun number) = codes "ok" ++ line_end
answer_text (answer.Ended number) = codes "ok" ++ line_end
answer_text (answer.Anchored checkpoint tail) = codes "ok" ++ line_end
answer_text answer.Moved = codes "ok" ++ line_end
answer_text answer.Cut = codes "ok" ++ line_end
answer_text (answer.IsDurable answered) = codes "ok" ++ line_end

-- the session's number first
abbrev pub answer_line : ℕ → Answer → List ℕ
answer_line session answered = decimal session ++ (codes ": " ++ answer_text answered)

-- a session's commit is durable
abbrev pub committed_line : ℕ → List ℕ
committed_line session = decimal session ++ (codes ": committed" ++ line_end)

-- the commit of a ticket is durable, or not yet
abbrev pub durable_line : Bool → List ℕ
durable_line true = codes "durable yes" ++ line_end
durable_line false = codes "durable no" ++ line_end

-- a checkpoint has begun, under this number
abbrev pub checkpoint_begun_line : ℕ → List ℕ
checkpoint_begun_line number = codes "checkpoint begun " ++ (decimal number ++ line_end)

-- the checkpoint of this begin is made, and the log is read from the tail on
abbrev pub checkpoint_line : ℕ → ℕ → List ℕ
checkpoint_line begin tail = codes "checkpoint " ++ (decimal begin ++ (codes " tail " ++ (decimal tail ++ line_end)))

-- threads have counted a record up so often
abbrev pub threads_line : ℕ → List ℕ
threads_line total = codes "threads " ++ (decimal total ++ line_end)

-- a fault of a session's call, or of another line
abbrev pub fault_line : Option ℕ → Fault → List ℕ
fault_line None fault = codes "fault " ++ (text_of fault ++ line_end)
fault_line (Some session) fault = decimal session ++ (codes ": fault " ++ (text_of fault ++ line_end))

abbrev pub open_fault_line : Fault → List ℕ
open_fault_line fault = codes "open fault " ++ (text_of fault ++ line_end)

abbrev pub waits_line : ℕ → Granule → List ℕ
waits_line session granule = decimal session ++ (codes ": waits " ++ (granule_name granule ++ line_end))

abbrev pub held_text : Option Mode → List ℕ
held_text None = codes "-"
held_text (Some mode) = mode_name mode

abbrev pub wanted_text : Option Mode → List ℕ
wanted_text None = []
wanted_text (Some mode) = codes " wants " ++ mode_name mode

abbrev pub lock_line : Request → List ℕ
lock_line request = granule_name request.granule ++ (codes " " ++ (decimal request.txn ++ (codes " " ++ (held_text request.held ++ (wanted_text request.wanted ++ line_end)))))

-- the name of what a record of the log says
abbrev pub kind_text : Payload → List ℕ
kind_text (payload.Change id before after) = codes "Change"
kind_text (payload.Compensation id after undo_next) = codes "Compensation"
kind_text payload.Commit = codes "Commit"
kind_text payload.End = codes "End"
kind_text (payload.Prepare global granules) = codes "Prepare"
kind_text payload.RollbackDecided = codes "RollbackDecided"
kind_text payload.CheckpointBegin = codes "CheckpointBegin"
kind_text (payload.CheckpointEnd begin next txns dirty) = codes "CheckpointEnd"
kind_text (payload.Anchor checkpoint tail) = codes "Anchor"

-- what only a Compensation says
abbrev pub next_text : Payload → List ℕ
next_text (payload.Change id before after) = []
next_text (payload.Compensation id after undo_next) = codes " next " ++ decimal undo_next
next_text payload.Commit = []
next_text payload.End = []
next_text (payload.Prepare global granules) = []
next_text payload.RollbackDecided = []
next_text payload.CheckpointBegin = []
next_text (payload.CheckpointEnd begin next txns dirty) = []
next_text (payload.Anchor checkpoint tail) = []

abbrev pub log_line : ℕ → LogRecord → List ℕ
log_line number logged = decimal number ++ (codes " " ++ (kind_text logged.payload ++ (codes " " ++ (decimal logged.txn ++ (codes " " ++ (decimal logged.previous ++ (next_text logged.payload ++ line_end)))))))

-- the number behind another, which saturates
abbrev pub next_number : ℕ → ℕ
next_number number = min (number + 1) (2 ^ 64 - 1)

-- the first has this number
abbrev pub log_lines : ℕ → List LogRecord → List ℕ
log_lines number [] = []
log_lines number (logged ∷ records) = log_line number logged ++ log_lines (next_number number) records
