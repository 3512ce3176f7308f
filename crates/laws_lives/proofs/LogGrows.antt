-- The list of log records grows with each event, and nothing of it is taken away.
use Rattle.std.proofs.Common.{◌≡◌, ◌++◌, ℕ, List, [], ◌∷◌, true, false, cond, Result, Ok, Err, refl, sym, ap, ◌∙◌, append-nil, append_assoc}
use Rattle.std.specs.Prelude.{◌==◌}
use Rattle.shore_types.specs.Images.{Image}
use Rattle.shore_types.specs.declared.faults.Fault.{Fault}
use Rattle.shore_types.specs.declared.ids.Rid.{Rid}
use Rattle.shore_model.specs.declared.calls.Answer.{Answer}
use Rattle.shore_model.specs.declared.calls.Answer.TheVariants.{Inserted}
use Rattle.shore_model.specs.declared.calls.Call.{Call}
use Rattle.shore_model.specs.declared.calls.Call.TheVariants as call
use Rattle.shore_model.specs.declared.log_records.LogRecord.{LogRecord}
use Rattle.shore_model.specs.declared.log_records.Payload.TheVariants.{Compensation, End}
use Rattle.shore_model.specs.Logs.{previous_of}
use Rattle.shore_model.specs.Records.{Records}
use Rattle.laws_lives.specs.Logged.{and_compensations, and_record, and_rollback, log_after, log_after_answer, log_after_reply, next_to_undo}
use Rattle.laws_lives.specs.SessionSteps.{AnswerAbort, AnswerInDoubt, AnswerPrepare, AnswerResolve, AppendCommit, AppendPrepare, AppendResolve, AppendRollback, Ask, BeginTxn, Doom, EndRollback, GiveReply, MoveLocks, PutBack, RefuseCall, SessionEvent}
use Rattle.laws_lives.specs.Sessions.{SessionTxn, Sessions}
use Rattle.laws_lives.specs.UndoLists.{images_since}

abbrev pub GrowsTo : List LogRecord → List LogRecord → Type 0
GrowsTo log all = (more : List LogRecord) × (all ≡ log ++ more)

grows_by_none : (log : List LogRecord) → GrowsTo log log
grows_by_none log = ([], sym (append-nil log))

compensations_grow : (t : ℕ) (log : List LogRecord) (images : List (Rid × Image)) → GrowsTo log (and_compensations t log images)
compensations_grow t log [] = grows_by_none log
compensations_grow t log (e ∷ images) =
    let rest = compensations_grow t log images in
    let so_far = and_compensations t log images in
    let r : LogRecord = record { txn = t; previous = previous_of t so_far; payload = Compensation e.0 e.1 (next_to_undo t so_far) } in
    (rest.0 ++ r ∷ [], ap (λ rs. rs ++ r ∷ []) rest.1 ∙ append_assoc log rest.0 (r ∷ []))

end_grows : (t : ℕ) (log : List LogRecord) (images : List (Rid × Image)) → GrowsTo log (and_record t (and_compensations t log images) End)
end_grows t log images =
    let undone = compensations_grow t log images in
    let r : LogRecord = record { txn = t; previous = previous_of t (and_compensations t log images); payload = End } in
    (undone.0 ++ r ∷ [], ap (λ rs. rs ++ r ∷ []) undone.1 ∙ append_assoc log undone.0 (r ∷ []))

rollback_grows : (t : ℕ) (log : List LogRecord) (images : List (Rid × Image)) → GrowsTo log (and_rollback t log images)
rollback_grows t log images =
    let undone = compensations_grow t log images in
    let r : LogRecord = record { txn = t; previous = previous_of t (and_compensations t log images); payload = End } in
    elim (previous_of t log == 0) as (λ b. GrowsTo log (cond b log (and_record t (and_compensations t log images) End))) [
      | true ↦ grows_by_none log
      | false ↦ (undone.0 ++ r ∷ [], ap (λ rs. rs ++ r ∷ []) undone.1 ∙ append_assoc log undone.0 (r ∷ []))
    ]

module _ (log : List LogRecord) (R : Records) (a : SessionTxn) where
  insert_grows : (store : ℕ) (bytes : List ℕ) (answer : Answer) → GrowsTo log (log_after_answer log R a (call.Insert store bytes) answer)
  insert_grows store bytes (Inserted id) = (_, refl)
  insert_grows store bytes _ = grows_by_none log

  answer_grows : (c : Call) (answer : Answer) → GrowsTo log (log_after_answer log R a c answer)
  answer_grows (call.Insert store bytes) answer = insert_grows store bytes answer
  answer_grows (call.Update id bytes) answer = (_, refl)
  answer_grows (call.Delete id) answer = (_, refl)
  answer_grows (call.BackTo n) answer = compensations_grow a.txn log (images_since a.undo n)
  answer_grows _ answer = grows_by_none log

  reply_grows : (c : Call) (reply : Result Answer Fault) → GrowsTo log (log_after_reply log R a c reply)
  reply_grows c (Ok answer) = answer_grows c answer
  reply_grows c (Err fault) = grows_by_none log

pub event_grows : (log : List LogRecord) (s : Sessions) (e : SessionEvent) → GrowsTo log (log_after log s e)
event_grows log s (MoveLocks held) = grows_by_none log
event_grows log s (BeginTxn session) = grows_by_none log
event_grows log s (GiveReply a c reply) = reply_grows log s.records a c reply
event_grows log s (AppendCommit a ticket) = (_, refl)
event_grows log s (PutBack a kept e r) = (_, refl)
event_grows log s (Doom a) = grows_by_none log
event_grows log s (AnswerAbort a) = rollback_grows a.txn log a.undo.images
event_grows log s (Ask ticket durable) = grows_by_none log
event_grows log s (RefuseCall session t c fault) = grows_by_none log
event_grows log s (AppendPrepare a global granules) = (_, refl)
event_grows log s (AnswerPrepare session t global) = grows_by_none log
event_grows log s (AppendResolve a global) = (_, refl)
event_grows log s (AppendRollback a global) = (_, refl)
event_grows log s (EndRollback a) = end_grows a.txn log a.undo.images
event_grows log s (AnswerResolve session r) = grows_by_none log
event_grows log s (AnswerInDoubt session t pairs) = grows_by_none log
