-- A manager: sessions at work over a log and pages. Nothing of the sessions knows of pages, and nothing of the pages of sessions; they meet
-- in what the log is after an event.
use Rattle.std.specs.Prelude.{◌≡◌, ◌<◌, ◌≤◌, ◌+◌, ◌↔◌, ◌++◌, ℕ, List, [], ◌∷◌, true, length, map, take}
use Rattle.shore_model.specs.declared.log_records.LogRecord.{LogRecord}
use Rattle.std.specs.FinMap.{get}
use Rattle.std.specs.List.{AllByRecursion}
use Rattle.shore_types.specs.declared.ids.Rid.{Rid}
use Rattle.shore_model.specs.declared.histories.Entry.{Entry}
use Rattle.shore_model.specs.declared.histories.Opening.{Opening}
use Rattle.shore_model.specs.Histories.{free}
use Rattle.shore_model.specs.Logs.{MayFollow, is_of_checkpoint}
use Rattle.laws_lives.specs.Doubts.{AreRestored, undo_in}
use Rattle.laws_lives.specs.Soundness.{found_in_doubt}
use Rattle.shore_model.specs.declared.histories.Decision.{Decision}
use Rattle.shore_model.specs.declared.histories.Decision.TheVariants as decision
use Rattle.laws_lives.specs.LogPrefixes.{IsDecidedIn, decision_asked}
use Rattle.laws_lives.specs.Recovery.{AppendRecord, FlushPage, ForceLog, LeadsTo, LosePower, RecoveryEvent, RecoveryState, RedoRecord}
use Rattle.laws_lives.specs.Logged.{log_after}
use Rattle.laws_lives.specs.SessionSteps.{AnswerAbort, Ask, AnswerInDoubt, AnswerPrepare, AnswerResolve, AppendCommit, AppendPrepare, AppendResolve, AppendRollback, BeginTxn, Doom, EndRollback, GiveReply, MoveLocks, PutBack, RefuseCall, SessionEvent, StepsTo, entries_by}
use Rattle.laws_lives.specs.Sessions.{ResolvedTxn, SessionTxn, Sessions, txns_of}
use Rattle.laws_lives.specs.Views.{IsAmong}

pub record ManagerState : Type 0 where
  pub sessions : Sessions
  pub store : RecoveryState

-- ---- log and pages

-- what may be done to log and pages between an open and a crash: nothing is redone that was not appended just now
abbrev pub IsWork : RecoveryEvent → Type 0
IsWork (AppendRecord r) = Unit {0}
IsWork (ForceLog n) = Unit {0}
IsWork (FlushPage p) = Unit {0}
IsWork RedoRecord = ⊥
IsWork (LosePower n left begin) = ⊥

abbrev pub WorksTo : RecoveryState → List RecoveryEvent → RecoveryState → Type 0
WorksTo s [] last = last ≡ s
WorksTo s (e ∷ works) last = IsWork e × (new : RecoveryState) × LeadsTo s e new × WorksTo new works last

-- ---- events

-- `Serve`: an event of the sessions, and the work that appends its records, with forces and flushes anywhere between.
-- `Tend`: work that appends nothing. `Note`: work that appends this record of a checkpoint, of which the sessions know nothing
pub data StretchEvent : Type 0 where
  Serve : SessionEvent → List RecoveryEvent → StretchEvent
  Tend : List RecoveryEvent → StretchEvent
  Note : LogRecord → List RecoveryEvent → StretchEvent

-- the decision of a resolve
abbrev pub decision_resolved : ResolvedTxn → Decision
decision_resolved r = decision_asked r.txn r.outcome

-- a prepare is not answered before its Prepare is durable, nor a resolve before its decision. If more is durable, or the log goes on, it stays so
abbrev pub AnswersDurable : ℕ → List LogRecord → SessionEvent → Type 0
AnswersDurable durable log (AppendCommit a ticket) = Unit {0}
AnswersDurable durable log (Ask ticket answer) = Unit {0}
AnswersDurable durable log (MoveLocks held) = Unit {0}
AnswersDurable durable log (BeginTxn session) = Unit {0}
AnswersDurable durable log (GiveReply a c reply) = Unit {0}
AnswersDurable durable log (PutBack a kept e r) = Unit {0}
AnswersDurable durable log (Doom a) = Unit {0}
AnswersDurable durable log (AnswerAbort a) = Unit {0}
AnswersDurable durable log (RefuseCall session t c fault) = Unit {0}
AnswersDurable durable log (AppendPrepare a global granules) = Unit {0}
AnswersDurable durable log (AnswerPrepare session t global) = IsDecidedIn (take durable log) (decision.Prepare t global)
AnswersDurable durable log (AppendResolve a global) = Unit {0}
AnswersDurable durable log (AppendRollback a global) = Unit {0}
AnswersDurable durable log (EndRollback a) = Unit {0}
AnswersDurable durable log (AnswerResolve session r) = IsDecidedIn (take durable log) (decision_resolved r)
AnswersDurable durable log (AnswerInDoubt session t pairs) = Unit {0}

-- A commit is answered at once: the number that its Commit gets. A ticket is durable exactly if the durable number is at least it. This is judged where the
-- event comes, and does not stay so.
abbrev pub TellsTicket : ℕ → List LogRecord → SessionEvent → Type 0
TellsTicket durable log (AppendCommit a ticket) = ticket ≡ length log + 1
TellsTicket durable log (Ask ticket answer) = (answer ≡ true) ↔ (ticket ≤ durable)
TellsTicket durable log (MoveLocks held) = Unit {0}
TellsTicket durable log (BeginTxn session) = Unit {0}
TellsTicket durable log (GiveReply a c reply) = Unit {0}
TellsTicket durable log (PutBack a kept e r) = Unit {0}
TellsTicket durable log (Doom a) = Unit {0}
TellsTicket durable log (AnswerAbort a) = Unit {0}
TellsTicket durable log (RefuseCall session t c fault) = Unit {0}
TellsTicket durable log (AppendPrepare a global granules) = Unit {0}
TellsTicket durable log (AnswerPrepare session t global) = Unit {0}
TellsTicket durable log (AppendResolve a global) = Unit {0}
TellsTicket durable log (AppendRollback a global) = Unit {0}
TellsTicket durable log (EndRollback a) = Unit {0}
TellsTicket durable log (AnswerResolve session r) = Unit {0}
TellsTicket durable log (AnswerInDoubt session t pairs) = Unit {0}

abbrev pub AnswersTruly : ℕ → List LogRecord → SessionEvent → Type 0
AnswersTruly durable log e = AnswersDurable durable log e × TellsTicket durable log e

abbrev pub ManagerStepsTo : ManagerState → StretchEvent → ManagerState → Type 0
ManagerStepsTo m (Serve e works) new =
    StepsTo m.sessions e new.sessions × AnswersTruly m.store.durable m.store.log e × WorksTo m.store works new.store × (new.store.log ≡ log_after m.store.log m.sessions e)
ManagerStepsTo m (Tend works) new = (new.sessions ≡ m.sessions) × WorksTo m.store works new.store × (new.store.log ≡ m.store.log)
ManagerStepsTo m (Note r works) new =
    MayFollow m.store.log r × (is_of_checkpoint r.payload ≡ true) × (new.sessions ≡ m.sessions) × WorksTo m.store works new.store × (new.store.log ≡ m.store.log ++ r ∷ [])

abbrev pub entries_made : ManagerState → StretchEvent → List Entry
entries_made m (Serve e works) = entries_by m.sessions e
entries_made m (Tend works) = []
entries_made m (Note r works) = []

abbrev pub ManagerRunsTo : ManagerState → List StretchEvent → List Entry → ManagerState → List Entry → Type 0
ManagerRunsTo m [] es last made = (last ≡ m) × (made ≡ es)
ManagerRunsTo m (e ∷ events) es last made = (new : ManagerState) × ManagerStepsTo m e new × ManagerRunsTo new events (es ++ entries_made m e) last made

-- The events may come one after another over a log of which `durable` records are durable at first: before each event, more may be.
abbrev pub RunsOver : Sessions → List LogRecord → ℕ → List SessionEvent → List Entry → Sessions → List Entry → Type 0
RunsOver s log durable [] es last made = (last ≡ s) × (made ≡ es)
RunsOver s log durable (e ∷ events) es last made =
    (new : Sessions) × (forced : ℕ) × StepsTo s e new × (durable ≤ forced) × (forced ≤ length log) × AnswersTruly forced log e
    × RunsOver new (log_after log s e) forced events (es ++ entries_by s e) last made

-- ---- an open

-- Sessions open on what a restart has left: the records that the pages show, no session in a transaction, and numbers that no record has. Those in
-- doubt are under way, with the undo lists and locks that the log gives them.
pub record OpensOver (o : Opening) (ready : RecoveryState) (first : Sessions) : Type 0 where
  pub slots : first.slots ≡ o.slots
  pub records : (id : Rid) → get first.records id ≡ (ready.in_place id.page).slots id.slot
  pub seats : (n : ℕ) → first.seats n ≡ free
  pub resolving : first.resolving ≡ []
  pub prepared : first.prepared ≡ map found_in_doubt o.in_doubt
  pub active : txns_of first.active ≡ map (λ d. d.txn) o.in_doubt
  pub undo_lists : (a : SessionTxn) → IsAmong a first.active → a.undo ≡ undo_in ready.log a.txn
  pub locks : AreRestored ready.log first.held
  pub some : 0 < first.next_txn
  pub below : AllByRecursion (λ r. r.txn < first.next_txn) ready.log
