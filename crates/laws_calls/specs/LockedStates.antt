-- What holds of the sessions of a manager and of its lock table after a history, while calls take locks.
use Rattle.std.specs.Prelude.{◌≡◌, ◌<◌, ℕ, List, [], ◌∷◌, ◌++◌, Ok, Err, All, false, true, length, map}
use Rattle.shore_model.specs.declared.calls.Call.{Call}
use Rattle.shore_model.specs.declared.calls.Call.TheVariants as call
use Rattle.shore_model.specs.declared.histories.Decision.TheVariants as decision
use Rattle.shore_model.specs.declared.histories.Entry.{Entry}
use Rattle.shore_model.specs.declared.histories.Opening.{Opening}
use Rattle.shore_model.specs.declared.histories.Entry.TheVariants.{Decided, Exchanged}
use Rattle.shore_model.specs.declared.log_records.LogRecord.{LogRecord}
use Rattle.shore_model.specs.Requests.{held_by_all}
use Rattle.shore_model.specs.declared.requests.Request.{Request}
use Rattle.shore_locks.specs.Orderly.{IsOrderly}
use Rattle.shore_locks.specs.Tables.{is_waiting}
use Rattle.shore_path.specs.Rooted.{AreRooted}
use Rattle.laws_lives.specs.LogPrefixes.{LogDecides, decisions_in}
use Rattle.laws_lives.specs.Doubts.{TracksDoubts}
use Rattle.laws_lives.specs.LogTells.{IsLogAfter}
use Rattle.laws_lives.specs.OwnSeats.{HasOwnSeats}
use Rattle.laws_lives.specs.SessionSteps.{exchange}
use Rattle.laws_lives.specs.Sessions.{EachOnce, SessionTxn, Sessions, resolved_of}
use Rattle.laws_lives.specs.Soundness.{IsSoundAfter, SessionsAgree}
use Rattle.laws_lives.specs.Views.{IsAmong}
use Rattle.laws_lives.specs.WholeLogs.{IsWholeLog}
use Rattle.shore_model.specs.declared.step.Step.{Step}
use Rattle.shore_model.specs.declared.step.Step.TheVariants.{Done, Nothing, Refused, Waits}
use Rattle.shore_model.specs.declared.step.Wait.{Wait}
use Rattle.shore_model.specs.declared.step.Wait.TheVariants.{Durable, Lock}
use Rattle.laws_calls.specs.CallHistories.{answered_under, txn_of}
use Rattle.laws_calls.specs.States.{AsksForNothing, HasSeat, State, Waiting}

-- ---- entries

-- what is decided by the records that a step has appended
abbrev pub decisions_made : State → State → List Entry
decisions_made s new = map Decided (decisions_in (length s.log) new.log)

-- what a wait adds: what its call has decided, and nothing for a lock
abbrev pub entries_of_wait : State → State → Wait → List Entry
entries_of_wait s new (Durable n) = decisions_made s new
entries_of_wait s new (Lock at) = []

-- what a call has decided that is answered at once: a commit its transaction's
abbrev pub decided_at_once : ℕ → Call → List Entry
decided_at_once t call.Begin = []
decided_at_once t (call.Get id) = []
decided_at_once t (call.GetForUpdate id) = []
decided_at_once t (call.Insert store bytes) = []
decided_at_once t (call.Update id bytes) = []
decided_at_once t (call.Delete id) = []
decided_at_once t (call.Scan store) = []
decided_at_once t (call.Lock granule mode) = []
decided_at_once t (call.TryLock granule mode) = []
decided_at_once t call.Savepoint = []
decided_at_once t (call.BackTo index) = []
decided_at_once t call.Commit = Decided (decision.Commit t) ∷ []
decided_at_once t call.Abort = []
decided_at_once t (call.Prepare global) = []
decided_at_once t (call.Resolve global outcome) = []
decided_at_once t call.InDoubt = []

-- What a call of a session adds to the history: its reply, behind what it has decided; or what it has decided and waits for. A resolve that is interrupted may have
-- decided to roll back.
abbrev pub entries_of_call : State → ℕ → Call → Step → State → List Entry
entries_of_call s session c (Done answer) new = decided_at_once (txn_of s.sessions session) c ++ Exchanged session (answered_under s.sessions session c) (exchange c (Ok answer)) ∷ []
entries_of_call s session c (Refused fault) new = decisions_made s new ++ Exchanged session (txn_of new.sessions session) (exchange c (Err fault)) ∷ []
entries_of_call s session c (Waits wait) new = entries_of_wait s new wait
entries_of_call s session c Nothing new = []

-- what a call adds that goes on
abbrev pub entries_of_resumed : State → Waiting → Step → List Entry
entries_of_resumed s w (Done answer) = Exchanged w.session (answered_under s.sessions w.session w.call) (exchange w.call (Ok answer)) ∷ []
entries_of_resumed s w (Refused fault) = Exchanged w.session (txn_of s.sessions w.session) (exchange w.call (Err fault)) ∷ []
entries_of_resumed s w (Waits wait) = []
entries_of_resumed s w Nothing = []

-- ---- states

-- who waits in the table is under way, and its session is in it
abbrev pub AreUnderWay : List Request → Sessions → Type 0
AreUnderWay rs s = (t : ℕ) → is_waiting t rs ≡ true → (a : SessionTxn) × HasSeat s a × (a.txn ≡ t)

-- The requests of the lock table are orderly and have their intentions. What they hold are the locks of the sessions, each is of a transaction that
-- began, who waits in the table is under way, and as long as no device has failed has a call that waits.
pub record HasTrueLocks (s : State) : Type 0 where
  pub held : s.sessions.held ≡ held_by_all s.locks.requests
  pub orderly : IsOrderly s.locks.requests
  pub rooted : AreRooted s.locks.requests
  pub below : All (λ r. r.txn < s.sessions.next_txn) s.locks.requests
  pub waiters : AreUnderWay s.locks.requests s.sessions
  pub waits : s.failed ≡ false → (a : SessionTxn) → IsAmong a s.sessions.active → AsksForNothing s a.session → is_waiting a.txn s.locks.requests ≡ false

-- The sessions, their log and their locks are what a manager has come to that was opened on this list, after these entries.
pub record IsSessionsState (o : Opening) (found : List LogRecord) (es : List Entry) (s : State) : Type 0 where
  pub sound : IsSoundAfter o es s.sessions
  pub agree : SessionsAgree o es s.sessions
  pub seats : HasOwnSeats s.sessions
  pub log : IsLogAfter o es s.sessions s.log
  pub whole : IsWholeLog s.log s.sessions
  pub doubts : TracksDoubts s.log s.sessions
  pub decides : LogDecides (length found) o es s.log
  -- no transaction is decided by two resolves
  pub single : EachOnce (resolved_of s.sessions)
  pub locks : HasTrueLocks s
