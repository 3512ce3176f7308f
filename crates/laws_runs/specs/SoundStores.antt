-- Which logs and pages a restart may be handed, and which stores leave no others whenever power is lost.
use Rattle.std.specs.Prelude.{◌≡◌, ◌≤◌, ℕ, List, [], ◌∷◌, length, take}
use Rattle.shore_types.specs.declared.layout.Geometry.{Geometry}
use Rattle.shore_model.specs.declared.histories.Entry.{Entry}
use Rattle.shore_model.specs.declared.histories.Opening.{Opening}
use Rattle.shore_model.specs.declared.log_records.LogRecord.{LogRecord}
use Rattle.shore_model.specs.Logs.{Lawful}
use Rattle.shore_model.specs.Requests.{HasNoCycle}
use Rattle.laws_lives.specs.Doubts.{DoubtsStand}
use Rattle.laws_lives.specs.Pages.{AreAsOfOwnNumbers, LoggedPages}
use Rattle.laws_lives.specs.Recovery.{CrashMayLeave, IsRecoverable, RecoveryState}
use Rattle.laws_calls.specs.CallHistories.{IsRoomyState}
use Rattle.laws_calls.specs.Events.{IsStateAfter, ManagerEvent}
use Rattle.laws_calls.specs.Shapes.{LockWaitsMayAsk}
use Rattle.laws_runs.specs.StoredRuns.{IsStored, Manage, StoredEvent, StoredState, Tend}
use Rattle.laws_runs.specs.RoomyLogs.{AreRoomy}
use Rattle.laws_runs.specs.RoomyStates.{LeavesRoomyLogs}

-- What a restart may be handed: a lawful log in which those in doubt stand beside each other, that leaves room for its undo, and pages as of their own
-- numbers.
pub record MayBeOpened (g : Geometry) (stream_bytes : ℕ) (rs : List LogRecord) (pages : LoggedPages) : Type 0 where
  pub lawful : Lawful rs
  pub doubts : DoubtsStand rs
  pub roomy : AreRoomy g stream_bytes (length rs) rs
  pub as_of : AreAsOfOwnNumbers rs pages

-- the store that a restart begins with over such a log and pages: all that it found is durable, and nothing is redone
abbrev pub found_state : List LogRecord → LoggedPages → RecoveryState
found_state rs pages = record { log = rs; durable = length rs; redone = 0; volume = pages; in_place = pages }

-- A store that may lose power now: it is recoverable, and its log is lawful. In each prefix that is left then those in doubt stand beside each other, and
-- there is room for its undo.
pub record IsSoundStore (g : Geometry) (stream_bytes : ℕ) (s : RecoveryState) : Type 0 where
  pub recoverable : IsRecoverable s
  pub lawful : Lawful s.log
  pub doubts : (n : ℕ) → s.durable ≤ n → DoubtsStand (take n s.log)
  pub roomy : AreRoomy g stream_bytes s.durable s.log

-- Power is lost over the store: so many records survive, all that are durable among them, and these pages are left.
pub record IsLost (s : RecoveryState) (survive : ℕ) (pages : LoggedPages) : Type 0 where
  pub least : s.durable ≤ survive
  pub most : survive ≤ length s.log
  pub shows : CrashMayLeave s pages

-- A manager under way over its store, these entries after its restart found this log: it is in a state after its calls, its calls that wait for locks
-- may ask for them and wait in no cycle, and there is room on pages and in the log; the store has its log, and every record of it is done on its page.
pub record IsUnderWay (g : Geometry) (stream_bytes : ℕ) (o : Opening) (found : List LogRecord) (es : List Entry) (m : StoredState) : Type 0 where
  pub state : IsStateAfter o found es m.state
  pub asks : LockWaitsMayAsk g m.state
  pub no_cycle : HasNoCycle m.state.locks.requests
  pub stored : IsStored m.state m.store
  pub roomy : IsRoomyState g.version m.state
  pub leaves : LeavesRoomyLogs g stream_bytes m.state
  pub recoverable : IsRecoverable m.store
  pub redone : m.store.redone ≡ length m.store.log

-- the events of the manager among those of it with its store
abbrev pub managed : List StoredEvent → List ManagerEvent
managed [] = []
managed (Manage e works ∷ events) = e ∷ managed events
managed (Tend works ∷ events) = managed events
