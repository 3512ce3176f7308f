-- The records that each event appends to the log, as one list beside the state of the sessions.
use Rattle.std.specs.Prelude.{◌==◌, ℕ, List, [], ◌∷◌, ◌++◌, if◌then◌else◌, None, Some, Result, Ok, Err, drop}
use Rattle.std.specs.FinMap.{get}
use Rattle.shore_types.specs.Images.{Image}
use Rattle.shore_types.specs.declared.faults.Fault.{Fault}
use Rattle.shore_types.specs.declared.ids.Rid.{Rid}
use Rattle.shore_model.specs.declared.calls.Answer.{Answer}
use Rattle.shore_model.specs.declared.calls.Answer.TheVariants.{Inserted}
use Rattle.shore_model.specs.declared.calls.Call.{Call}
use Rattle.shore_model.specs.declared.calls.Call.TheVariants as call
use Rattle.shore_model.specs.declared.log_records.LogRecord.{LogRecord}
use Rattle.shore_model.specs.declared.log_records.Payload.{Payload}
use Rattle.shore_model.specs.declared.log_records.Payload.TheVariants.{Change, Compensation, Commit, End, Prepare, RollbackDecided}
use Rattle.shore_model.specs.Logs.{previous_of, undo_next_of, unanswered}
use Rattle.shore_model.specs.Records.{Records}
use Rattle.laws_lives.specs.SessionSteps.{SessionEvent, MoveLocks, BeginTxn, GiveReply, AppendCommit, PutBack, Doom, AnswerAbort, Ask, RefuseCall, AppendPrepare, AnswerPrepare, AppendResolve, AppendRollback, EndRollback, AnswerResolve, AnswerInDoubt}
use Rattle.laws_lives.specs.Sessions.{SessionTxn, Sessions}
use Rattle.laws_lives.specs.UndoLists.{images_since}

-- the list with a transaction's next record
abbrev pub and_record : ℕ → List LogRecord → Payload → List LogRecord
and_record t log p = log ++ record { txn = t; previous = previous_of t log; payload = p } ∷ []

-- what remains to be undone of a transaction once its newest unanswered Change is
abbrev pub next_to_undo : ℕ → List LogRecord → ℕ
next_to_undo t log = undo_next_of (drop 1 (unanswered t log))

-- the list with a Compensation for each image that is put back, from the last image to the first
abbrev pub and_compensations : ℕ → List LogRecord → List (Rid × Image) → List LogRecord
and_compensations t log [] = log
and_compensations t log (e ∷ es) =
    and_record t (and_compensations t log es) (Compensation e.0 e.1 (next_to_undo t (and_compensations t log es)))

-- An insert, an update and a delete append a Change, and a BackTo the Compensations of what it undoes.
abbrev pub log_after_answer : List LogRecord → Records → SessionTxn → Call → Answer → List LogRecord
log_after_answer log R a (call.Insert s bytes) (Inserted id) = and_record a.txn log (Change id (get R id) (Some bytes))
log_after_answer log R a (call.Insert s bytes) _ = log
log_after_answer log R a (call.Update id bytes) answer = and_record a.txn log (Change id (get R id) (Some bytes))
log_after_answer log R a (call.Delete id) answer = and_record a.txn log (Change id (get R id) None)
log_after_answer log R a (call.BackTo n) answer = and_compensations a.txn log (images_since a.undo n)
log_after_answer log R a call.Begin answer = log
log_after_answer log R a (call.Get id) answer = log
log_after_answer log R a (call.GetForUpdate id) answer = log
log_after_answer log R a (call.Scan s) answer = log
log_after_answer log R a (call.Lock g mode) answer = log
log_after_answer log R a (call.TryLock g mode) answer = log
log_after_answer log R a call.Savepoint answer = log
log_after_answer log R a call.Commit answer = log
log_after_answer log R a call.Abort answer = log
log_after_answer log R a (call.Prepare global) answer = log
log_after_answer log R a (call.Resolve global outcome) answer = log
log_after_answer log R a call.InDoubt answer = log

abbrev pub log_after_reply : List LogRecord → Records → SessionTxn → Call → Result Answer Fault → List LogRecord
log_after_reply log R a c (Ok answer) = log_after_answer log R a c answer
log_after_reply log R a c (Err fault) = log

-- the list after a rollback of all that is left: the End comes if the transaction has logged anything
abbrev pub and_rollback : ℕ → List LogRecord → List (Rid × Image) → List LogRecord
and_rollback t log images = if previous_of t log == 0 then log else and_record t (and_compensations t log images) End

-- the list after an event: an image that is put back appends its Compensation, and an abort those of all that are left and an End
abbrev pub log_after : List LogRecord → Sessions → SessionEvent → List LogRecord
log_after log s (MoveLocks held) = log
log_after log s (BeginTxn session) = log
log_after log s (GiveReply a c reply) = log_after_reply log s.records a c reply
log_after log s (AppendCommit a ticket) = and_record a.txn log Commit
log_after log s (PutBack a kept e r) = and_record a.txn log (Compensation e.0 e.1 (next_to_undo a.txn log))
log_after log s (Doom a) = log
log_after log s (AnswerAbort a) = and_rollback a.txn log a.undo.images
log_after log s (Ask ticket durable) = log
log_after log s (RefuseCall session t c fault) = log
log_after log s (AppendPrepare a global granules) = and_record a.txn log (Prepare global granules)
log_after log s (AnswerPrepare session t global) = log
log_after log s (AppendResolve a global) = and_record a.txn log Commit
log_after log s (AppendRollback a global) = and_record a.txn log RollbackDecided
log_after log s (EndRollback a) = and_record a.txn (and_compensations a.txn log a.undo.images) End
log_after log s (AnswerResolve session r) = log
log_after log s (AnswerInDoubt session t pairs) = log
