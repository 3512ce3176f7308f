-- A manager with its store: the calls of `laws_calls` above, the log and the pages of `laws_lives` below. They meet in two numbers
-- and a list: the log is one, and as much of it is durable as the manager was told.
use Rattle.std.specs.Prelude.{◌≡◌, ◌≤◌, ◌++◌, ℕ, List, [], ◌∷◌, false, length, take}
use Rattle.std.specs.List.{AllByRecursion}
use Rattle.shore_types.specs.declared.layout.Geometry.{Geometry}
use Rattle.shore_types.specs.declared.layout.TheConstants.{MAX_TRANSACTIONS}
use Rattle.shore_model.specs.declared.histories.Entry.{Entry}
use Rattle.shore_model.specs.declared.histories.Opening.{Opening}
use Rattle.shore_model.specs.declared.log_records.LogRecord.{LogRecord}
use Rattle.shore_model.specs.Histories.{shown}
use Rattle.shore_model.specs.Lives.{Span, next_opening}
use Rattle.laws_lives.specs.Pages.{LoggedPages}
use Rattle.laws_lives.specs.Recovery.{MayCrash, RecoveryEvent, RecoveryState, after_crash}
use Rattle.laws_lives.specs.Restarts.{RestartsTo}
use Rattle.laws_lives.specs.Undo.{HasNoLosers}
use Rattle.laws_lives.specs.LogPrefixes.{decisions_in}
use Rattle.laws_lives.specs.Soundness.{history_from}
use Rattle.laws_calls.specs.CallHistories.{HasGrantedLocks, IsPrefix}
use Rattle.laws_calls.specs.Events.{ManagerEvent, EventMoves, entries_of}
use Rattle.laws_calls.specs.States.{State}
use Rattle.laws_lives.specs.ManagerSteps.{OpensOver, WorksTo}

pub record StoredState : Type 0 where
  pub state : State
  pub store : RecoveryState

-- the store has the manager's log, and as much of it is durable
pub record IsStored (state : State) (store : RecoveryState) : Type 0 where
  pub log : store.log ≡ state.log
  pub durable : store.durable ≡ state.durable

-- ---- events

-- `Manage`: an event of the manager, with the work that it makes: its record appended and done on its page, a force that is told, and pages
-- written back at any moment of it. `Tend`: work between two events
pub data StoredEvent : Type 0 where
  Manage : ManagerEvent → List RecoveryEvent → StoredEvent
  Tend : List RecoveryEvent → StoredEvent

abbrev pub StoredSteps : Geometry → StoredState → StoredEvent → StoredState → Type 0
StoredSteps g m (Manage e works) new = EventMoves g m.state e new.state × WorksTo m.store works new.store × IsStored new.state new.store
StoredSteps g m (Tend works) new = (new.state ≡ m.state) × WorksTo m.store works new.store × IsStored new.state new.store

abbrev pub entries_made : StoredState → StoredEvent → StoredState → List Entry
entries_made m (Manage e works) new = entries_of m.state e new.state
entries_made m (Tend works) new = []

abbrev pub StoredMoves : Geometry → StoredState → List StoredEvent → StoredState → List Entry → Type 0
StoredMoves g m [] last made = (last ≡ m) × (made ≡ [])
StoredMoves g m (e ∷ events) last made = (new : StoredState) × (later : List Entry)
    × StoredSteps g m e new × StoredMoves g new events last later × (made ≡ entries_made m e new ++ later)

-- ---- from a restart to a crash

-- The manager opens over what a restart has left: no session is in a transaction, no call waits, and the pages show its records. Those in doubt have
-- their locks in the table, where nobody waits, and are no more than there may be.
pub record IsOpenedOver (o : Opening) (ready : RecoveryState) (first : State) : Type 0 where
  pub sessions : OpensOver o ready first.sessions
  pub stored : IsStored first ready
  pub locks : HasGrantedLocks first
  pub waiting : first.waiting ≡ []
  pub running : first.failed ≡ false
  pub few : length first.sessions.active ≤ MAX_TRANSACTIONS

-- One manager. `restart` makes `ready` of what was found, though power may be lost in it too; the manager opens in the state `first`, and `events`
-- lead to `last` and make the entries `made`. Then power is lost: `survive` records are left, these pages, and redo is to begin behind
-- record `begin`.
pub record StoredRun : Type 0 where
  pub restart : List RecoveryEvent
  pub ready : RecoveryState
  pub first : State
  pub events : List StoredEvent
  pub last : StoredState
  pub made : List Entry
  pub survive : ℕ
  pub pages : LoggedPages
  pub begin : ℕ

pub record IsStoredRun (g : Geometry) (o : Opening) (s : RecoveryState) (r : StoredRun) : Type 0 where
  pub restarts : RestartsTo s r.restart r.ready
  pub redone : r.ready.redone ≡ length r.ready.log
  pub no_losers : HasNoLosers r.ready.log
  pub opens : IsOpenedOver o r.ready r.first
  pub moves : StoredMoves g (record { state = r.first; store = r.ready }) r.events r.last r.made
  pub crash : MayCrash r.last.store r.survive r.pages r.begin

abbrev pub left_by_run : StoredRun → RecoveryState
left_by_run r = after_crash r.last.store r.survive r.pages r.begin

-- the span of a life that a run is: its entries, and the decisions that the crash kept, behind the records that its restart found
abbrev pub span_of_run : RecoveryState → StoredRun → Span
span_of_run s r = record { entries = r.made; kept = decisions_in (length s.log) (take r.survive r.last.store.log) }

abbrev pub spans_of_runs : RecoveryState → List StoredRun → List Span
spans_of_runs s [] = []
spans_of_runs s (r ∷ runs) = span_of_run s r ∷ spans_of_runs (left_by_run r) runs

-- each restarts on what the crash before it left, and opens as the kept decisions say
abbrev pub AreStoredRuns : Geometry → Opening → RecoveryState → List StoredRun → RecoveryState → Type 0
AreStoredRuns g o s [] last = last ≡ s
AreStoredRuns g o s (r ∷ runs) last = IsStoredRun g o s r × AreStoredRuns g (next_opening o (span_of_run s r)) (left_by_run r) runs last

-- Each open shows the records that the life has come to by then, with the changes of those in doubt in place, and the next one is counted from what the
-- crash kept behind it: so what an open has shown is never taken back.
abbrev pub RunsShow : Opening → RecoveryState → List StoredRun → Type 0
RunsShow o s [] = Unit {0}
RunsShow o s (r ∷ runs) = (r.first.sessions.records ≡ shown (history_from o []) []) × RunsShow (next_opening o (span_of_run s r)) (left_by_run r) runs

-- ---- what opens find

-- each of these lists is a prefix of every later one, and of the last
abbrev pub AreFixed : List (List LogRecord) → List LogRecord → Type 0
AreFixed [] last = Unit {0}
AreFixed (rs ∷ later) last = AllByRecursion (IsPrefix rs) later × IsPrefix rs last × AreFixed later last

-- the logs that the restarts of runs have found
abbrev pub lists_found : RecoveryState → List StoredRun → List (List LogRecord)
lists_found s [] = []
lists_found s (r ∷ runs) = s.log ∷ lists_found (left_by_run r) runs
