-- Runs of prepared transactions, worked by hand, from an open on records o that have a. Session 1 changes a and prepares under a global id. In the first, session
-- 3 resolves it to abort, and session 1 begins anew before the change is put back. In the second it is resolved to commit, its locks go before the resolve is
-- answered, and session 2 reads what was committed. In the third there is no resolve. In the fourth an open finds it in doubt, and session 2 resolves it to abort.
use Rattle.std.specs.Prelude.{ℕ, true, List, [], ◌∷◌, None, Ok, Some}
use Rattle.std.specs.FinMap.{get}
use Rattle.shore_types.specs.declared.faults.Fault.TheVariants.{IsPrepared}
use Rattle.shore_types.specs.declared.ids.Rid.{Rid}
use Rattle.shore_types.specs.declared.locking.Granule.{Granule}
use Rattle.shore_types.specs.declared.locking.Granule.TheVariants.{Record}
use Rattle.shore_types.specs.declared.locking.Mode.TheVariants.{IX}
use Rattle.shore_model.specs.declared.holds.Hold.{Hold}
use Rattle.shore_model.specs.declared.calls.Answer.TheVariants.{Began, Got, Prepared, Updated}
use Rattle.shore_model.specs.declared.calls.Call.TheVariants as call
use Rattle.shore_model.specs.declared.calls.Outcome.TheVariants as outcome
use Rattle.shore_model.specs.declared.histories.Decision.TheVariants as decision
use Rattle.shore_model.specs.declared.histories.Entry.{Entry}
use Rattle.shore_model.specs.declared.histories.Entry.TheVariants.{Decided, Exchanged}
use Rattle.shore_model.specs.declared.log_records.LogRecord.{LogRecord}
use Rattle.shore_model.specs.declared.log_records.Payload.TheVariants as payload
use Rattle.shore_model.specs.declared.log_records.Payload.TheVariants.{Change}
use Rattle.shore_model.specs.Histories.{free}
use Rattle.shore_model.specs.Records.{Records, put_image}
use Rattle.laws_lives.specs.Doubts.{doubts_in, restored_locks, undo_in}
use Rattle.shore_model.specs.declared.rollbacks.Rollback.TheVariants.{Whole}
use Rattle.laws_lives.specs.SessionSteps.{AnswerInDoubt, AnswerPrepare, AnswerResolve, AppendPrepare, AppendResolve, AppendRollback, BeginTxn, EndRollback, GiveReply, MoveLocks, PutBack, RefuseCall, SessionEvent, exchange}
use Rattle.laws_lives.specs.Sessions.{ResolvedTxn, SessionTxn, Sessions}
use Rattle.laws_lives.specs.UndoLists.{UndoList, nothing_to_undo}
use Rattle.laws_lives.specs.WorkedRun.{read_lock, write_lock}

abbrev pub preparer : UndoList → SessionTxn
preparer undo = record { session = 1; txn = 1; undo = undo }

abbrev pub changed_once : Records → Rid → UndoList
changed_once o a = record { images = (a, get o a) ∷ []; marks = []; rolling = None }

-- its Rollback decided is appended, and then its image is put back
abbrev pub to_be_undone : Records → Rid → UndoList
to_be_undone o a = record { images = (a, get o a) ∷ []; marks = []; rolling = Some Whole }

abbrev pub all_undone : UndoList
all_undone = record { images = []; marks = []; rolling = Some Whole }

abbrev pub to_abort : List ℕ → ResolvedTxn
to_abort global = record { txn = 1; global = global; outcome = outcome.Abort }

abbrev pub to_commit : List ℕ → ResolvedTxn
to_commit global = record { txn = 1; global = global; outcome = outcome.Commit }

abbrev pub prepared_once : Records → Rid → List ℕ → List ℕ → List SessionEvent
prepared_once o a z global =
    BeginTxn 1 ∷ MoveLocks (write_lock 1 a ∷ []) ∷ GiveReply (preparer nothing_to_undo) (call.Update a z) (Ok Updated)
    ∷ AppendPrepare (preparer (changed_once o a)) global (Record a ∷ []) ∷ []

abbrev pub resolved_to_abort : Records → Rid → List ℕ → List ℕ → List SessionEvent
resolved_to_abort o a z global =
    BeginTxn 1 ∷ MoveLocks (write_lock 1 a ∷ []) ∷ GiveReply (preparer nothing_to_undo) (call.Update a z) (Ok Updated)
    ∷ AppendPrepare (preparer (changed_once o a)) global (Record a ∷ []) ∷ AnswerPrepare 1 1 global
    ∷ RefuseCall 1 1 call.Commit IsPrepared
    ∷ AppendRollback (preparer (changed_once o a)) global ∷ BeginTxn 1
    ∷ PutBack (preparer (to_be_undone o a)) [] (a, get o a) Whole ∷ EndRollback (preparer all_undone) ∷ AnswerResolve 3 (to_abort global) ∷ []

abbrev pub second_reader : SessionTxn
second_reader = record { session = 2; txn = 2; undo = nothing_to_undo }

abbrev pub resolved_to_commit : Records → Rid → List ℕ → List ℕ → List SessionEvent
resolved_to_commit o a z global =
    BeginTxn 1 ∷ MoveLocks (write_lock 1 a ∷ []) ∷ GiveReply (preparer nothing_to_undo) (call.Update a z) (Ok Updated)
    ∷ AppendPrepare (preparer (changed_once o a)) global (Record a ∷ []) ∷ AnswerPrepare 1 1 global
    ∷ AppendResolve (preparer (changed_once o a)) global ∷ MoveLocks [] ∷ BeginTxn 2 ∷ MoveLocks (read_lock 2 a ∷ [])
    ∷ GiveReply second_reader (call.Get a) (Ok (Got z)) ∷ AnswerResolve 3 (to_commit global) ∷ []

-- ---- from an open that finds it in doubt

abbrev pub doubtful_log : Records → Rid → List ℕ → List ℕ → List LogRecord
doubtful_log o a z global =
    record { txn = 1; previous = 0; payload = Change a (get o a) (Some z) } ∷ record { txn = 1; previous = 1; payload = payload.Prepare global (Record a ∷ []) } ∷ []

abbrev pub intention : Granule → Hold
intention g = record { txn = 1; granule = g; mode = IX }

abbrev pub found_again : UndoList → SessionTxn
found_again undo = record { session = 0; txn = 1; undo = undo }

abbrev pub doubtful_open : Records → Rid → List ℕ → List ℕ → Sessions
doubtful_open o a z global = record {
  slots = 2042;
  records = put_image o a (Some z);
  active = found_again (undo_in (doubtful_log o a z global) 1) ∷ [];
  held = restored_locks (doubts_in (doubtful_log o a z global));
  next_txn = 2;
  seats = λ n. free;
  prepared = record { txn = 1; global = global; answered = true } ∷ [];
  resolving = [];
}

abbrev pub resolved_after_open : Records → Rid → List ℕ → List SessionEvent
resolved_after_open o a global =
    BeginTxn 2 ∷ AnswerInDoubt 2 2 ((global, 1) ∷ []) ∷ AppendRollback (found_again (changed_once o a)) global
    ∷ PutBack (found_again (to_be_undone o a)) [] (a, get o a) Whole ∷ EndRollback (found_again all_undone) ∷ AnswerResolve 2 (to_abort global) ∷ []

-- ---- a prepare that is answered after a resolve

-- transaction 1 of session 1 begins, prepares and is committed by a resolve, before its prepare is answered
abbrev pub resolved_first : List ℕ → List Entry
resolved_first global = Exchanged 1 1 (exchange call.Begin (Ok (Began 1))) ∷ Decided (decision.Prepare 1 global) ∷ Decided (decision.Commit 1) ∷ []

abbrev pub late_answer : ℕ → List ℕ → Entry
late_answer n global = Exchanged 1 n (exchange (call.Prepare global) (Ok Prepared))
