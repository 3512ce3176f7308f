-- A stretch of a life: a restart, an open, a manager at work, and the crash at its end.
use Rattle.std.specs.Prelude.{◌≡◌, ◌⊎◌, ◌≤◌, ◌++◌, List, [], ◌∷◌, ℕ, length, map, take}
use Rattle.shore_model.specs.declared.histories.Entry.{Entry}
use Rattle.shore_model.specs.declared.histories.Opening.{Opening}
use Rattle.shore_model.specs.declared.log_records.LogRecord.{LogRecord}
use Rattle.shore_model.specs.Lives.{Span, next_opening}
use Rattle.shore_model.specs.Logs.{Lawful, records_told}
use Rattle.laws_lives.specs.Pages.{LoggedPages, empty_page}
use Rattle.laws_lives.specs.Recovery.{IsRecoverable, MayCrash, RecoveryEvent, RecoveryState, after_crash}
use Rattle.laws_lives.specs.Restarts.{RestartsTo}
use Rattle.laws_lives.specs.Undo.{HasNoLosers}
use Rattle.laws_lives.specs.LogPrefixes.{DecidesNothing, decisions_in}
use Rattle.laws_lives.specs.Logged.{log_after}
use Rattle.laws_lives.specs.SessionSteps.{SessionEvent, StepsTo}
use Rattle.laws_lives.specs.Sessions.{SessionTxn, Sessions, pair_of, txns_of}
use Rattle.laws_lives.specs.Views.{IsAmong}
use Rattle.laws_lives.specs.Soundness.{history_from}
use Rattle.shore_model.specs.Histories.{shown}
use Rattle.laws_lives.specs.ManagerSteps.{ManagerState, StretchEvent, ManagerRunsTo, OpensOver, WorksTo}
use Rattle.laws_lives.specs.Doubts.{AreRestored, DoubtsStand, undo_in}

-- What the first restart of a stretch finds. All of its log is durable: a crash leaves no more of it than that.
pub record MayBeFound (s : RecoveryState) : Type 0 where
  pub recoverable : IsRecoverable s
  pub lawful : Lawful s.log
  pub doubts : DoubtsStand s.log
  pub durable : length s.log ≤ s.durable

-- an empty volume, with an empty log
abbrev pub just_formatted : RecoveryState
just_formatted = record { log = []; durable = 0; redone = 0; volume = λ p. empty_page; in_place = λ p. empty_page }

-- The parts of a stretch. `restart` makes `ready` of what was found, though power may be lost in it too; the sessions open as `first`, and
-- `events` lead to `last` and make the entries `made`. Power is lost over `failing`: `survive` records are left, these pages, and redo is
-- to begin behind record `begin`.
pub record Stretch : Type 0 where
  pub restart : List RecoveryEvent
  pub ready : RecoveryState
  pub first : Sessions
  pub events : List StretchEvent
  pub last : ManagerState
  pub made : List Entry
  pub failing : RecoveryState
  pub survive : ℕ
  pub pages : LoggedPages
  pub begin : ℕ

-- restart has come through, and the manager that opened over it has run
pub record IsUpAfter (o : Opening) (s : RecoveryState) (l : Stretch) : Type 0 where
  pub restarts : RestartsTo s l.restart l.ready
  pub redone : l.ready.redone ≡ length l.ready.log
  pub no_losers : HasNoLosers l.ready.log
  pub opens : OpensOver o l.ready l.first
  pub runs : ManagerRunsTo (record { sessions = l.first; store = l.ready }) l.events [] l.last l.made

-- ---- the crash

-- An event of the sessions has appended some of its records and not the others; its entry is not made. An event with a Commit has no midst:
-- it appends nothing else.
pub record IsInMidst (m : ManagerState) (failing : RecoveryState) : Type 0 where
  pub event : SessionEvent
  pub next : Sessions
  pub steps : StepsTo m.sessions event next
  pub decides : DecidesNothing event
  pub works : List RecoveryEvent
  pub work : WorksTo m.store works failing
  pub missing : List LogRecord
  pub goes_on : log_after m.store.log m.sessions event ≡ failing.log ++ missing

-- power may be lost between two events, or in the midst of one
abbrev pub MayFailAs : ManagerState → RecoveryState → Type 0
MayFailAs m failing = (failing ≡ m.store) ⊎ IsInMidst m failing

abbrev pub left_by_crash : Stretch → RecoveryState
left_by_crash l = after_crash l.failing l.survive l.pages l.begin

pub record IsStretch (o : Opening) (s : RecoveryState) (l : Stretch) : Type 0 where
  pub up : IsUpAfter o s l
  pub fails : MayFailAs l.last l.failing
  pub crash : MayCrash l.failing l.survive l.pages l.begin

-- ---- lives

-- the decisions that a stretch keeps are those in what survives, behind the records that its first restart found
abbrev pub span_of : RecoveryState → Stretch → Span
span_of s l = record { entries = l.made; kept = decisions_in (length s.log) (take l.survive l.failing.log) }

-- each stretch begins with what the one before it left
abbrev pub AreStretches : Opening → RecoveryState → List Stretch → Type 0
AreStretches o s [] = Unit {0}
AreStretches o s (l ∷ ls) = IsStretch o s l × AreStretches (next_opening o (span_of s l)) (left_by_crash l) ls

abbrev pub left_at_last : RecoveryState → List Stretch → RecoveryState
left_at_last s [] = s
left_at_last s (l ∷ ls) = left_at_last (left_by_crash l) ls

abbrev pub spans_of : RecoveryState → List Stretch → List Span
spans_of s [] = []
spans_of s (l ∷ ls) = span_of s l ∷ spans_of (left_by_crash l) ls

-- the opening that each of them leaves to the next
abbrev pub opening_after : Opening → List Span → Opening
opening_after o [] = o
opening_after o (s ∷ spans) = opening_after (next_opening o s) spans

-- each open shows what the log tells that the stretch found, and that is what the opening shows: the serial records, with the changes of those in doubt in place
abbrev pub OpensShow : Opening → RecoveryState → List Stretch → Type 0
OpensShow o s [] = Unit {0}
OpensShow o s (l ∷ ls) =
    ((l.first.records ≡ records_told s.log) × (l.first.records ≡ shown (history_from o []) [])) × OpensShow (next_opening o (span_of s l)) (left_by_crash l) ls

-- Those whom the opening has in doubt, and nobody else, are in doubt and under way at the first, with undo lists and locks that the log gives.
pub record HasDoubtsOf (o : Opening) (l : Stretch) : Type 0 where
  pub prepared : map pair_of l.first.prepared ≡ map (λ d. (d.txn, d.global)) o.in_doubt
  pub active : txns_of l.first.active ≡ map (λ d. d.txn) o.in_doubt
  pub undo_lists : (a : SessionTxn) → IsAmong a l.first.active → a.undo ≡ undo_in l.ready.log a.txn
  pub locks : AreRestored l.ready.log l.first.held

-- each open gives those back whom the kept decisions of the stretches before it leave in doubt
abbrev pub OpensGiveBack : Opening → RecoveryState → List Stretch → Type 0
OpensGiveBack o s [] = Unit {0}
OpensGiveBack o s (l ∷ ls) = HasDoubtsOf o l × OpensGiveBack (next_opening o (span_of s l)) (left_by_crash l) ls
