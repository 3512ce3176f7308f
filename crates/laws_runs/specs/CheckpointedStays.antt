-- Stays of the power one after another in which managers make checkpoints: each begins with what the crash before it left, behind the anchor that it left.
use Rattle.std.specs.Prelude.{◌≡◌, ℕ, List, [], ◌∷◌, length, take}
use Rattle.shore_types.specs.declared.layout.Geometry.{Geometry}
use Rattle.shore_model.specs.declared.histories.Entry.{Entry}
use Rattle.shore_model.specs.declared.histories.Opening.{Opening}
use Rattle.shore_model.specs.declared.log_records.LogRecord.{LogRecord}
use Rattle.shore_model.specs.Histories.{shown}
use Rattle.shore_model.specs.Lives.{Span, next_opening}
use Rattle.laws_lives.specs.LogPrefixes.{decisions_in}
use Rattle.laws_lives.specs.Pages.{LoggedPages}
use Rattle.laws_lives.specs.Recovery.{AppendRecord, FlushPage, ForceLog, LeadsTo, LosePower, RecoveryEvent, RecoveryState, RedoRecord}
use Rattle.laws_lives.specs.Restarts.{IsRestartStep}
use Rattle.laws_lives.specs.Soundness.{history_from}
use Rattle.laws_lives.specs.Undo.{HasNoLosers}
use Rattle.laws_calls.specs.States.{State}
use Rattle.laws_checkpoints.specs.Checkpoints.{Anchored, cut_of}
use Rattle.laws_checkpoints.specs.CheckpointedStores.{CheckpointedStore}
use Rattle.laws_checkpoints.specs.RecoveryNumbers.{recovery_after}
use Rattle.laws_runs.specs.CheckpointSteps.{CheckpointedMove, CheckpointedMoves, CheckpointedState, log_limit}
use Rattle.laws_runs.specs.CheckpointedStates.{IsOpenedBehind, MayBeAnchored, found_behind}
use Rattle.laws_runs.specs.SoundStores.{IsLost}
use Rattle.laws_runs.specs.StoredRuns.{IsOpenedOver}

-- ---- a restart

abbrev pub LosesNoPower : RecoveryEvent → Type 0
LosesNoPower (AppendRecord r) = Unit {0}
LosesNoPower RedoRecord = Unit {0}
LosesNoPower (ForceLog n) = Unit {0}
LosesNoPower (FlushPage p) = Unit {0}
LosesNoPower (LosePower n left begin) = ⊥

-- a restart with no loss of power, and the recovery numbers of its pages; the anchor stays
abbrev pub RestartsBehind : CheckpointedStore → List RecoveryEvent → CheckpointedStore → Type 0
RestartsBehind s [] last = last ≡ s
RestartsBehind s (e ∷ events) last =
    IsRestartStep s.store e × LosesNoPower e
    × (next : RecoveryState) × LeadsTo s.store e next × RestartsBehind (record s { store = next; recovery = recovery_after s.store e s.recovery }) events last

-- ---- one stay

-- An open that lost power: its restart had come so far, and then so many records were left, and these pages. The anchor is as it was.
pub record CheckpointedCut : Type 0 where
  pub restart : List RecoveryEvent
  pub reached : CheckpointedStore
  pub survive : ℕ
  pub pages : LoggedPages

pub record IsCheckpointedCut (a : Anchored) (rs : List LogRecord) (pages : LoggedPages) (c : CheckpointedCut) : Type 0 where
  pub restarts : RestartsBehind (found_behind a rs pages) c.restart c.reached
  pub lost : IsLost c.reached.store c.survive c.pages

-- a manager: its restart came through, it opened, ran with its checkpoints, and lost power, which left this anchor
pub record CheckpointedRun : Type 0 where
  pub restart : List RecoveryEvent
  pub ready : CheckpointedStore
  pub first : State
  pub events : List CheckpointedMove
  pub last : CheckpointedState
  pub made : List Entry
  pub survive : ℕ
  pub pages : LoggedPages
  pub anchor : Anchored

pub record IsCheckpointedUp (g : Geometry) (ring_bytes : ℕ) (o : Opening) (a : Anchored) (rs : List LogRecord) (pages : LoggedPages) (r : CheckpointedRun) : Type 0 where
  pub restarts : RestartsBehind (found_behind a rs pages) r.restart r.ready
  pub redone : r.ready.store.redone ≡ length r.ready.store.log
  pub no_losers : HasNoLosers r.ready.store.log
  pub opens : IsOpenedOver o r.ready.store r.first
  pub from : IsOpenedBehind g (log_limit ring_bytes (cut_of a) r.ready.store.log) a r.ready.store.log r.first
  pub moves : CheckpointedMoves g (record { state = r.first; store = r.ready }) r.events r.last r.made
  pub lost : IsLost r.last.store.store r.survive r.pages
  pub anchored : MayBeAnchored r.last.store r.anchor

pub data CheckpointedStay : Type 0 where
  CutOff : CheckpointedCut → CheckpointedStay
  WasUp : CheckpointedRun → CheckpointedStay

-- ---- any number of them

abbrev pub left_by_cut : CheckpointedCut → List LogRecord
left_by_cut c = take c.survive c.reached.store.log

abbrev pub left_by_up : CheckpointedRun → List LogRecord
left_by_up r = take r.survive r.last.store.store.log

-- the span of a life that a run is: its entries, and the decisions that the crash kept, behind the records that its restart found
abbrev pub span_of_up : List LogRecord → CheckpointedRun → Span
span_of_up rs r = record { entries = r.made; kept = decisions_in (length rs) (left_by_up r) }

-- from this anchor, log and pages to those, each from what the crash before it left
abbrev pub AreCheckpointedStays : Geometry → ℕ → Opening → Anchored → List LogRecord → LoggedPages → List CheckpointedStay → Anchored → List LogRecord → LoggedPages → Type 0
AreCheckpointedStays g ring_bytes o a rs pages [] last_anchor last last_pages = (last_anchor ≡ a) × (last ≡ rs) × (last_pages ≡ pages)
AreCheckpointedStays g ring_bytes o a rs pages (CutOff c ∷ stays) last_anchor last last_pages =
    IsCheckpointedCut a rs pages c × AreCheckpointedStays g ring_bytes o a (left_by_cut c) c.pages stays last_anchor last last_pages
AreCheckpointedStays g ring_bytes o a rs pages (WasUp r ∷ stays) last_anchor last last_pages =
    IsCheckpointedUp g ring_bytes o a rs pages r
    × AreCheckpointedStays g ring_bytes (next_opening o (span_of_up rs r)) r.anchor (left_by_up r) r.pages stays last_anchor last last_pages

abbrev pub spans_of_stays : List LogRecord → List CheckpointedStay → List Span
spans_of_stays rs [] = []
spans_of_stays rs (CutOff c ∷ stays) = spans_of_stays (left_by_cut c) stays
spans_of_stays rs (WasUp r ∷ stays) = span_of_up rs r ∷ spans_of_stays (left_by_up r) stays

-- each open shows what the life has come to by then, with the changes of those in doubt in place
abbrev pub StaysShow : Opening → List LogRecord → List CheckpointedStay → Type 0
StaysShow o rs [] = Unit {0}
StaysShow o rs (CutOff c ∷ stays) = StaysShow o (left_by_cut c) stays
StaysShow o rs (WasUp r ∷ stays) = (r.first.sessions.records ≡ shown (history_from o []) []) × StaysShow (next_opening o (span_of_up rs r)) (left_by_up r) stays

-- the logs that restarts have found, those of opens that lost power among them
abbrev pub logs_found : List LogRecord → List CheckpointedStay → List (List LogRecord)
logs_found rs [] = []
logs_found rs (CutOff c ∷ stays) = rs ∷ logs_found (left_by_cut c) stays
logs_found rs (WasUp r ∷ stays) = rs ∷ logs_found (left_by_up r) stays
