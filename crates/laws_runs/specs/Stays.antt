-- Stays of the power one after another over plain data: each begins with what the crash before it left.
use Rattle.std.specs.Prelude.{◌≡◌, ◌++◌, ℕ, List, [], ◌∷◌, length, take}
use Rattle.shore_types.specs.declared.layout.Geometry.{Geometry}
use Rattle.shore_model.specs.declared.histories.Opening.{Opening}
use Rattle.shore_model.specs.declared.log_records.LogRecord.{LogRecord}
use Rattle.shore_model.specs.Lives.{next_opening}
use Rattle.laws_lives.specs.Pages.{LoggedPages}
use Rattle.laws_lives.specs.Recovery.{LosePower, RecoveryEvent, RecoveryState}
use Rattle.laws_lives.specs.Restarts.{RestartsTo}
use Rattle.laws_lives.specs.Undo.{HasNoLosers}
use Rattle.laws_runs.specs.StoredRuns.{IsOpenedOver, StoredMoves, StoredRun, span_of_run}
use Rattle.laws_runs.specs.RoomyStates.{IsOpenedFrom}
use Rattle.laws_runs.specs.SoundStores.{IsLost, found_state}

-- ---- one stay

-- An open that lost power: its restart had come so far, and then so many records were left, and these pages.
pub record StoredCut : Type 0 where
  pub restart : List RecoveryEvent
  pub reached : RecoveryState
  pub survive : ℕ
  pub pages : LoggedPages

pub record IsStoredCut (s : RecoveryState) (c : StoredCut) : Type 0 where
  pub restarts : RestartsTo s c.restart c.reached
  pub lost : IsLost c.reached c.survive c.pages

-- A manager: its restart came through, it opened from the log of its restart, ran, and lost power. The next redo begins with the first record.
pub record IsStoredUp (g : Geometry) (stream_bytes : ℕ) (o : Opening) (s : RecoveryState) (r : StoredRun) : Type 0 where
  pub restarts : RestartsTo s r.restart r.ready
  pub redone : r.ready.redone ≡ length r.ready.log
  pub no_losers : HasNoLosers r.ready.log
  pub opens : IsOpenedOver o r.ready r.first
  pub from : IsOpenedFrom g stream_bytes r.ready.log r.first
  pub moves : StoredMoves g (record { state = r.first; store = r.ready }) r.events r.last r.made
  pub lost : IsLost r.last.store r.survive r.pages
  pub begin : r.begin ≡ 0

-- `Cut`: an open that lost power; `Up`: a manager that was opened, and lost power later
pub data StoredStay : Type 0 where
  Cut : StoredCut → StoredStay
  Up : StoredRun → StoredStay

-- ---- any number of them

-- From this log and these pages to those, each from what the crash before it left. An open that lost power decides nothing; a manager opens as the
-- decisions say that the crashes before it kept.
abbrev pub AreStoredStays : Geometry → ℕ → Opening → List LogRecord → LoggedPages → List StoredStay → List LogRecord → LoggedPages → Type 0
AreStoredStays g stream_bytes o rs pages [] last last_pages = (last ≡ rs) × (last_pages ≡ pages)
AreStoredStays g stream_bytes o rs pages (Cut c ∷ stays) last last_pages =
    IsStoredCut (found_state rs pages) c × AreStoredStays g stream_bytes o (take c.survive c.reached.log) c.pages stays last last_pages
AreStoredStays g stream_bytes o rs pages (Up r ∷ stays) last last_pages =
    IsStoredUp g stream_bytes o (found_state rs pages) r
    × AreStoredStays g stream_bytes (next_opening o (span_of_run (found_state rs pages) r)) (take r.survive r.last.store.log) r.pages stays last last_pages

-- what an open did before it lost power, and the loss
abbrev pub work_cut_off : StoredCut → List RecoveryEvent
work_cut_off c = c.restart ++ LosePower c.survive c.pages 0 ∷ []

-- The runs among the stays. What opens did that lost power is part of the restart of the run behind them; `before` is what was done so far.
abbrev pub runs_of : List RecoveryEvent → List StoredStay → List StoredRun
runs_of before [] = []
runs_of before (Cut c ∷ stays) = runs_of (before ++ work_cut_off c) stays
runs_of before (Up r ∷ stays) = record r { restart = before ++ r.restart } ∷ runs_of [] stays
