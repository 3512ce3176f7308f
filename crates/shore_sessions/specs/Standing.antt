-- How a control stands for the part of a state that is of its sessions: the transactions under way, the locks, and the calls that wait.
use Rattle.std.specs.Prelude.{◌≡◌, ◌<◌, ◌+◌, ◌++◌, ◌∷◌, ℕ, List, Bool, None, Some, false, if◌then◌else◌, map, reverse}
use Rattle.std.specs.List.{AllByRecursion}
use Rattle.std.specs.List.Sorted.{IsPermutation}
use Rattle.std.specs.FinMap.{get}
use Rattle.shore_types.specs.Images.{Image}
use Rattle.shore_types.specs.declared.ids.Rid.{Rid}
use Rattle.shore_model.specs.declared.calls.Call.TheVariants as call
use Rattle.shore_model.specs.declared.log_records.LogRecord.{LogRecord}
use Rattle.shore_model.specs.declared.log_records.Payload.TheVariants.{Change, Compensation, End}
use Rattle.shore_model.specs.declared.unanswered_changes.UnansweredChange.{UnansweredChange}
use Rattle.shore_model.specs.Histories.{free}
use Rattle.shore_model.specs.Logs as logs
use Rattle.shore_model.specs.Logs.{prepare_number, previous_of, unanswered}
use Rattle.shore_model.specs.Records.{put_image}
use Rattle.laws_room.specs.Claims.{SlotCounts}
use Rattle.laws_lives.specs.Logged.{and_record, next_to_undo}
use Rattle.shore_model.specs.declared.rollbacks.Rollback.{Rollback}
use Rattle.laws_lives.specs.SessionSteps.{AnswerAbort, entries_by}
use Rattle.laws_lives.specs.Sessions.{EachOnce, ResolvedTxn, SessionTxn, abort_answered, image_put_back, in_txn, seated, txns_of, with_undo}
use Rattle.laws_lives.specs.UndoLists.{with_before_image}
use Rattle.laws_lives.specs.Views.{IsAmong}
use Rattle.shore_locks.specs.Grants.{released}
use Rattle.laws_calls.specs.CallSteps.{IsPreparing, with_requests}
use Rattle.laws_calls.specs.Resolves.{rollback_number}
use Rattle.laws_calls.specs.States.{State, cost_of_log}
use Rattle.shore_txn.specs.Transactions.{next_in, prepared_in, room_in, undos_in}
use Rattle.shore_txn.specs.Transactions as table
use Rattle.shore_txn.specs.Txns.{decided_of, entries_of, first_of, global_of, last_of, number_of, prepare_of}
use Rattle.shore_txn.specs.UndoEntries.{HaveClaims}
use Rattle.shore_txn.specs.declared.seat.Seat.{Seat}
use Rattle.shore_txn.specs.declared.transactions.Transactions.{Transactions}
use Rattle.shore_txn.specs.declared.txn.Txn.{Txn}
use Rattle.shore_txn.specs.declared.undo.UndoEntry.{UndoEntry}
use Rattle.shore_sessions.specs.declared.control.Control.{Control}
use Rattle.shore_sessions.specs.declared.waits.WaitingCall.{WaitingCall}
use Rattle.shore_sessions.specs.Calls.{as_resolved, as_waitings, awaits_record, caller_of, logs_decision, names_of, resolved_by}
use Rattle.shore_sessions.specs.Controls.{locks_in, txns_in, waits_in}
use Rattle.shore_sessions.specs.Seated.{IsNamed, IsSeated, rolled_in}

-- ---- transactions

-- an entry as the Change that it undoes
abbrev pub as_change : UndoEntry → UnansweredChange
as_change e = record { number = e.lsn; id = e.id; before = e.before }

-- It has its first and its last record in this log, and its entries are its Changes that no Compensation has answered. Beside each entry it has what the
-- slot claimed before the change. It has the numbers of its Prepare, of which it has none as long as it has no name, and of its Rollback decided.
pub record IsLogged (log : List LogRecord) (t : Txn) : Type 0 where
  pub first : first_of t ≡ logs.first_of (number_of t) log
  pub last : last_of t ≡ previous_of (number_of t) log
  pub changes : unanswered (number_of t) log ≡ reverse (map as_change (entries_of t))
  pub claims : HaveClaims (entries_of t)
  pub prepare : prepare_of t ≡ prepare_number (number_of t) log
  pub unprepared : global_of t ≡ None → prepare_of t ≡ 0
  pub decided : decided_of t ≡ rollback_number (number_of t) log

-- The transactions are those of the state that are under way, each with its session if one is in it; those in doubt are those of the state, in
-- another order. As much is free in the room as its log leaves free: what is cut off counts neither as kept nor as room there.
pub record HasTxns (txns : Transactions) (s : State) : Type 0 where
  pub active : s.sessions.active ≡ undos_in txns
  pub prepared : IsPermutation s.sessions.prepared (prepared_in txns)
  pub seats : AllByRecursion (IsSeated s.sessions) (table.txns_in txns)
  -- no session is in a transaction to come
  pub entered : (n : ℕ) → (s.sessions.seats n).txn < next_in txns
  pub names : AllByRecursion IsNamed (table.txns_in txns)
  pub next : s.sessions.next_txn ≡ next_in txns
  pub room : s.stream_bytes + (room_in txns).kept ≡ cost_of_log s.log + (room_in txns).stream_bytes
  pub each : AllByRecursion (IsLogged s.log) (table.txns_in txns)
  -- no record is of a transaction to come
  pub above : AllByRecursion (λ r. r.txn < next_in txns) s.log

-- ---- calls that wait

-- Who waits for a lock is in a transaction under way, and whose prepare waits in one that is in doubt. A resolve that waits has ended its transaction, and its
-- session is in none; no two have ended one. No commit waits.
pub record HasWaits (calls : List WaitingCall) (s : State) : Type 0 where
  pub waiting : s.waiting ≡ as_waitings calls
  -- those that log a decision wait for its record, and all others for a lock
  pub kinds : (w : WaitingCall) → IsAmong w calls → awaits_record w ≡ logs_decision w.call
  pub asking : (w : WaitingCall) → IsAmong w calls → awaits_record w ≡ false
      → IsAmong (caller_of w) (names_of s.sessions.active) × (s.sessions.seats w.session ≡ in_txn w.txn)
  pub preparing : (w : WaitingCall) (global : List ℕ) → IsAmong w calls → w.call ≡ call.Prepare global → IsPreparing s.sessions w.session w.txn global
  pub ended : (w : WaitingCall) (r : ResolvedTxn) → IsAmong w calls → as_resolved w ≡ Some r
      → (IsAmong w.txn (txns_of s.sessions.active) → ⊥) × (w.txn < s.sessions.next_txn) × (s.sessions.seats w.session ≡ free)
  pub once : EachOnce (map (λ r. r.txn) (resolved_by calls))

-- ---- both, and the locks

-- As long as no device has failed, what is decided by a resolve and not answered is still rolled back in the table, or its resolve waits.
abbrev pub AreResolving : Transactions → List WaitingCall → State → Type 0
AreResolving txns calls s = s.failed ≡ false → IsPermutation s.sessions.resolving (rolled_in txns ++ resolved_by calls)

pub record HasControl (control : Control) (s : State) : Type 0 where
  pub txns : HasTxns (txns_in control) s
  pub waits : HasWaits (waits_in control) s
  pub resolving : AreResolving (txns_in control) (waits_in control) s
  pub locks : s.locks ≡ locks_in control

-- .. but that the resolve of one transaction, whose rollback has ended, neither waits nor is answered yet
pub record HasControlBut (r : ResolvedTxn) (control : Control) (s : State) : Type 0 where
  pub txns : HasTxns (txns_in control) s
  pub waits : HasWaits (waits_in control) s
  pub resolving : s.failed ≡ false → IsPermutation s.sessions.resolving (r ∷ (rolled_in (txns_in control) ++ resolved_by (waits_in control)))
  pub ended : (IsAmong r.txn (txns_of s.sessions.active) → ⊥) × (r.txn < s.sessions.next_txn)
  pub once : IsAmong r.txn (map (λ r. r.txn) (resolved_by (waits_in control))) → ⊥
  pub locks : s.locks ≡ locks_in control

-- ---- steps

-- a transaction under way is the one at a seat, whose session may be another that resolves it
abbrev pub IsAt : Seat → State → SessionTxn → Type 0
IsAt seat s a = IsAmong a s.sessions.active × (a.txn ≡ seat.txn)

-- a transaction has put another image at an id, which is logged
abbrev pub changed : State → SessionTxn → Rid → Image → SlotCounts → State
changed s a id image counts = record s {
  sessions = record s.sessions {
    records = put_image s.sessions.records id image;
    active = with_undo a.txn (with_before_image s.sessions.records a.undo id) s.sessions.active;
  };
  counts = counts;
  log = and_record a.txn s.log (Change id (get s.sessions.records id) image);
}

-- A transaction has put its newest image back in this rollback, which is logged: these images are left.
abbrev pub put_back : State → SessionTxn → List (Rid × Image) → Rid × Image → Rollback → State
put_back s a kept e rollback = record s {
  sessions = image_put_back s.sessions a kept e rollback;
  log = and_record a.txn s.log (Compensation e.0 e.1 (next_to_undo a.txn s.log));
}

-- The abort of a transaction has ended, whose images are all put back. Its End goes last if it is logged, and then its locks go.
abbrev pub abort_ended : State → SessionTxn → Bool → State
abort_ended s a logged = with_requests (record s {
  sessions = seated s.sessions (entries_by s.sessions (AnswerAbort a)) (abort_answered s.sessions a);
  log = if logged then and_record a.txn s.log End else s.log;
}) (released a.txn s.locks.requests)
