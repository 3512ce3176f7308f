-- A moment of a manager whose core lies under one lock and whose log device under another.
use Rattle.std.specs.Prelude.{◌≡◌, ◌≤◌, ℕ, List, [], ◌∷◌, ◌++◌, All, map, true, length}
use Rattle.shore_types.specs.declared.layout.Geometry.{Geometry}
use Rattle.shore_model.specs.declared.histories.Entry.{Entry}
use Rattle.shore_model.specs.declared.histories.Entry.TheVariants.{Asked}
use Rattle.shore_model.specs.declared.histories.Opening.{Opening}
use Rattle.shore_model.specs.declared.log_records.LogRecord.{LogRecord}
use Rattle.laws_calls.specs.States.{State}
use Rattle.laws_checkpoints.specs.Checkpoints.{Anchored, cut_of}
use Rattle.laws_checkpoints.specs.CheckpointedStores.{CheckpointedStore}
use Rattle.laws_lives.specs.Undo.{HasNoLosers}
use Rattle.shore_gate.specs.declared.anchors.Anchor.{Anchor}
use Rattle.laws_lives.specs.Pages.{LoggedPages}
use Rattle.laws_lives.specs.Recovery.{CrashMayLeave, ForceLog, RecoveryEvent}
use Rattle.laws_calls.specs.Events.{Forced, TicketAsked}
use Rattle.laws_images.specs.Moments.{ShowsLeft}
use Rattle.laws_images.specs.StandsBehind.{GivesKept, HasAnchor, anchored_by}
use Rattle.laws_runs.specs.CheckpointSteps.{CheckpointedMove, CheckpointedMoves, CheckpointedState, CheckpointedSteps, Checkpoints, Goes, entries_of_move, log_limit}
use Rattle.laws_runs.specs.CheckpointedStates.{IsOpenedBehind, MayBeAnchored, found_behind}
use Rattle.laws_runs.specs.CheckpointedStays.{RestartsBehind}
use Rattle.laws_runs.specs.StoredRuns.{IsOpenedOver, Manage, Tend}

-- Power is lost amid a step: the volume is left as it may be before the step, or with pages written back since that were so before it; the log device may have any number of the records that
-- the step logs, for it takes them in while the step goes on.
pub record IsLostAmid (m new : CheckpointedState) (survive : ℕ) (pages : LoggedPages) : Type 0 where
  pub least : new.store.store.durable ≤ survive
  pub most : survive ≤ length new.store.store.log
  pub shows : CrashMayLeave m.store.store pages

-- the same move, with what other work it makes
abbrev pub IsAlike : CheckpointedMove → CheckpointedMove → Type 0
IsAlike (Goes (Manage e works)) (Goes (Manage f others)) = f ≡ e
IsAlike (Goes (Tend works)) (Goes (Tend others)) = Unit {0}
IsAlike (Checkpoints step) (Checkpoints other) = other ≡ step
IsAlike (Goes (Manage e works)) (Goes (Tend others)) = ⊥
IsAlike (Goes (Manage e works)) (Checkpoints other) = ⊥
IsAlike (Goes (Tend works)) (Goes (Manage f others)) = ⊥
IsAlike (Goes (Tend works)) (Checkpoints other) = ⊥
IsAlike (Checkpoints step) (Goes e) = ⊥

-- A step that was made with other work: it has come to the same state, log and checkpoint, and made the same entries.
pub record IsMadeOtherwise (g : Geometry) (m : CheckpointedState) (e : CheckpointedMove) (new : CheckpointedState) (other : CheckpointedMove) (last : CheckpointedState) : Type 0 where
  pub step : CheckpointedSteps g m other last
  pub alike : IsAlike e other
  pub state : last.state ≡ new.state
  pub log : last.store.store.log ≡ new.store.store.log
  pub durable : last.store.store.durable ≡ new.store.store.durable
  pub stage : last.store.stage ≡ new.store.stage
  pub anchored : last.store.anchored ≡ new.store.anchored
  pub entries : entries_of_move m other last ≡ entries_of_move m e new

-- ---- the moment

-- The core was at the first state when its step began; once the step is through it is at the other. Meanwhile the log device knows this anchor, and so many records to be durable:
-- all that the core knows of, for the core learns from what was told, and no more than the core sends in this step. What sessions have seen to be durable is among them.
pub record IsMoment (g : Geometry) (m : CheckpointedState) (e : CheckpointedMove) (new : CheckpointedState) (anchor : Anchor) (stable : ℕ) (seen : List ℕ) : Type 0 where
  pub step : CheckpointedSteps g m e new
  pub told : new.store.store.durable ≤ stable
  pub sent : stable ≤ length new.store.store.log
  pub seen_stable : All (λ n. n ≤ stable) seen
  pub anchored : MayBeAnchored new.store (anchored_by anchor)

-- A loss of power leaves such a pair then: each device by itself. `front` is the front of the volume.
pub record IsLeftThen (g : Geometry) (log_bytes : ℕ) (front : List ℕ) (m new : CheckpointedState) (anchor : Anchor) (stable : ℕ) (log_image volume_image : List ℕ) : Type 0 where
  pub has : HasAnchor g log_bytes anchor log_image
  pub gives : GivesKept anchor stable new.store.store.log log_image
  pub shows : ShowsLeft g front m.store.store volume_image

-- what is told and asked behind a step: how far the log is durable, and of each of these tickets that it is
abbrev pub asks_of : List ℕ → List CheckpointedMove
asks_of [] = []
asks_of (ticket ∷ tickets) = Goes (Manage (TicketAsked ticket true) []) ∷ asks_of tickets

abbrev pub told_and_asked : ℕ → List ℕ → List CheckpointedMove
told_and_asked n tickets = Goes (Manage (Forced n) (ForceLog n ∷ [])) ∷ asks_of tickets

abbrev pub entries_of_asks : List ℕ → List Entry
entries_of_asks tickets = map (λ ticket. Asked ticket true) tickets

-- the step under way, with what other work it makes, and then what was told and asked, lead there and make these entries
pub record RunsOn (g : Geometry) (m : CheckpointedState) (e : CheckpointedMove) (stable : ℕ) (seen : List ℕ) (moves : List CheckpointedMove) (last : CheckpointedState) (made : List Entry) : Type 0 where
  pub other : CheckpointedMove
  pub alike : IsAlike e other
  pub are : moves ≡ other ∷ told_and_asked stable seen
  pub lead : CheckpointedMoves g m moves last made

-- ---- a stay that ends in threads

-- A manager that opened, went on by these moves, in threads and before them, and lost power at a moment of its threads: it was in the midst of this step.
pub record ThreadedRun : Type 0 where
  pub restart : List RecoveryEvent
  pub ready : CheckpointedStore
  pub first : State
  pub events : List CheckpointedMove
  pub begun : CheckpointedState
  pub made : List Entry
  pub step : CheckpointedMove
  pub new : CheckpointedState
  pub anchor : Anchor
  pub stable : ℕ
  pub seen : List ℕ
  pub survive : ℕ
  pub pages : LoggedPages

pub record IsUpInThreads (g : Geometry) (ring_bytes : ℕ) (o : Opening) (a : Anchored) (rs : List LogRecord) (pages : LoggedPages) (r : ThreadedRun) : Type 0 where
  pub restarts : RestartsBehind (found_behind a rs pages) r.restart r.ready
  pub redone : r.ready.store.redone ≡ length r.ready.store.log
  pub no_losers : HasNoLosers r.ready.store.log
  pub opens : IsOpenedOver o r.ready.store r.first
  pub from : IsOpenedBehind g (log_limit ring_bytes (cut_of a) r.ready.store.log) a r.ready.store.log r.first
  pub moves : CheckpointedMoves g (record { state = r.first; store = r.ready }) r.events r.begun r.made
  pub moment : IsMoment g r.begun r.step r.new r.anchor r.stable r.seen
  pub least : r.stable ≤ r.survive
  pub lost : IsLostAmid r.begun r.new r.survive r.pages

-- all that it has told: before the step, by the step, and of tickets
abbrev pub entries_of_threads : ThreadedRun → List Entry
entries_of_threads r = r.made ++ (entries_of_move r.begun r.step r.new ++ entries_of_asks r.seen)
