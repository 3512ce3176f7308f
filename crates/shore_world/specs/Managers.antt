-- Managers one after another over one pair of devices, and opens between that came to none. The power may be lost at any moment, in opens too, or the
-- devices be opened again without that. Each condition is what a contract says of the call that it names.
use Rattle.std.specs.Prelude.{◌≡◌, ◌++◌, ℕ, List, [], ◌∷◌}
use Rattle.shore_types.specs.declared.layout.Geometry.{Geometry}
use Rattle.shore_disk.specs.Device.{DeviceHistory, left_since, may_leave, moment, seen, size}
use Rattle.shore_disk.specs.declared.device.Disk.{Ghosts}
use Rattle.shore_gate.specs.declared.anchors.Anchor.{Anchor}
use Rattle.shore_model.specs.declared.histories.Entry.{Entry}
use Rattle.shore_model.specs.declared.histories.Opening.{Opening}
use Rattle.shore_model.specs.declared.log_records.LogRecord.{LogRecord}
use Rattle.laws_lives.specs.Pages.{LoggedPages}
use Rattle.laws_runs.specs.CheckpointedStays.{CheckpointedRun, CheckpointedStay, CutOff, WasUp}
use Rattle.laws_runs.specs.CheckpointedStates.{IsAtCheckpoints}
use Rattle.laws_runs.specs.CheckpointSteps.{CheckpointedMove, CheckpointedMoves, CheckpointedState}
use Rattle.laws_threads.specs.Amid.{IsLeftThen, IsMoment, entries_of_asks, told_and_asked}
use Rattle.laws_images.specs.StandsBehind.{StandsForBehind}
use Rattle.shore_world.specs.declared.world.World.{World}
use Rattle.shore_world.specs.Crashes.{AreLeft}
use Rattle.shore_world.specs.EventMoves.{PlainMove, moves_among}
use Rattle.shore_world.specs.Exchanges.{tellings_in}
use Rattle.shore_world.specs.Legs.{AreLegs, IsUpIn, Leg, moves_of_legs, tellings_of_legs}
use Rattle.shore_world.specs.Opens.{HasOpened, LeftByOpen}
use Rattle.shore_world.specs.Worlds.{IsAt, geometry_in, history_in, stream_bytes_in}

-- ---- one stay

-- One manager on a pair: it is opened on devices with these calls behind them, and goes these legs to its last world.
pub record Manager (L V : Type 0) (G : Ghosts L) (H : Ghosts V) : Type 0 where
  pub log : DeviceHistory
  pub volume : DeviceHistory
  pub opened : World L V G H
  pub legs : List (Leg L V G H)
  pub ended : World L V G H

-- It is opened at the end of the way of an open, and goes its legs.
pub record IsManager {L V : Type 0} {G : Ghosts L} {H : Ghosts V} (m : Manager L V G H) : Type 0 where
  pub opens : (g : Geometry) (anchor : Anchor) (rs : List LogRecord) (pages : LoggedPages) → StandsForBehind g (size m.log) (size m.volume) anchor rs pages (seen m.log) (seen m.volume)
      → HasOpened m.opened g anchor m.log m.volume rs pages
  pub legs : AreLegs m.opened m.legs m.ended

-- One manager whose world was handed to threads behind these legs, at a moment of these: what its core was asked in threads so far and what that came to, and the step that it is in, if any, as moves; how far the log device
-- knows the log to be forced, and which tickets sessions have found durable; and the calls of both devices, before those that are under way and behind them.
pub record Threads (L V : Type 0) (G : Ghosts L) (H : Ghosts V) : Type 0 where
  pub log : DeviceHistory
  pub volume : DeviceHistory
  pub opened : World L V G H
  pub legs : List (Leg L V G H)
  pub handed : World L V G H
  pub trail : List PlainMove
  pub step : List PlainMove
  pub stable : ℕ
  pub seen : List ℕ
  pub log_now : DeviceHistory
  pub log_later : DeviceHistory
  pub volume_now : DeviceHistory
  pub volume_later : DeviceHistory

-- Power is lost then, of both devices at once, and leaves these images, each of some moment of the calls that are under way.
abbrev pub AreLeftInThreads : {L V : Type 0} {G : Ghosts L} {H : Ghosts V} → Threads L V G H → List ℕ → List ℕ → Type 0
AreLeftInThreads t log_image volume_image = left_since t.log_later (moment t.log_now) log_image × left_since t.volume_later (moment t.volume_now) volume_image

-- From a state of a manager that the world was at, behind this front of its volume: moves lead to the state in which the step begins, and whatever pair is left, behind the anchor that counts in it, is left at a moment of
-- that step.
pub record LeadsToMoment {L V : Type 0} {G : Ghosts L} {H : Ghosts V} (t : Threads L V G H) (front : List ℕ) (m : CheckpointedState) : Type 0 where
  pub plain : List CheckpointedMove
  pub ready : CheckpointedState
  pub made : List Entry
  pub lead : CheckpointedMoves (geometry_in t.handed) m plain ready made
  pub are : moves_among plain ≡ t.trail
  pub under_way : CheckpointedMove
  pub new : CheckpointedState
  pub is : moves_among (under_way ∷ []) ≡ t.step
  pub left : (log_image volume_image : List ℕ) → AreLeftInThreads t log_image volume_image
      → (anchor : Anchor) × IsMoment (geometry_in t.handed) ready under_way new anchor t.stable t.seen
      × IsLeftThen (geometry_in t.handed) (size (history_in t.handed)) front ready new anchor t.stable log_image volume_image

-- It is opened at the end of the way of an open, goes its legs, and is handed to threads, which lead it on from whatever state it is at.
pub record IsInThreads {L V : Type 0} {G : Ghosts L} {H : Ghosts V} (t : Threads L V G H) : Type 0 where
  pub opens : (g : Geometry) (anchor : Anchor) (rs : List LogRecord) (pages : LoggedPages) → StandsForBehind g (size t.log) (size t.volume) anchor rs pages (seen t.log) (seen t.volume)
      → HasOpened t.opened g anchor t.log t.volume rs pages
  pub legs : AreLegs t.opened t.legs t.handed
  pub each : (opening : Opening) (found : List LogRecord) (entries : List Entry) (up : IsUpIn t.handed opening found entries) → ∥ LeadsToMoment t up.front up.last ∥₁

-- `Tried`: an open that came to no manager, of devices with these calls behind them; `Up`: a manager; `Shared`: one that lost power in threads
pub data Stay (L V : Type 0) (G : Ghosts L) (H : Ghosts V) : Type 0 where
  Tried : DeviceHistory → DeviceHistory → Stay L V G H
  Up : Manager L V G H → Stay L V G H
  Shared : Threads L V G H → Stay L V G H

-- ---- one after another

-- What the next open finds: devices of these lengths, a crash of which leaves only such pairs of images as the stay before could leave together at some
-- moment. So it is if the power was lost then, and they hold one such pair; if the process ended then; and if the stay ended and handed the devices back.
pub record AreFound (log_bytes volume_bytes : ℕ) (left : List ℕ → List ℕ → Type 0) (log volume : DeviceHistory) : Type 0 where
  pub lengths : (size log ≡ log_bytes) × (size volume ≡ volume_bytes)
  pub among : (log_image volume_image : List ℕ) → may_leave log log_image → may_leave volume volume_image → left log_image volume_image

-- From devices of which at first these pairs of images may be left, to those that are found in the end.
abbrev pub AreStays : {L V : Type 0} {G : Ghosts L} {H : Ghosts V} → ℕ → ℕ → (List ℕ → List ℕ → Type 0) → List (Stay L V G H) → DeviceHistory → DeviceHistory → Type 0
AreStays log_bytes volume_bytes left [] log_last volume_last = AreFound log_bytes volume_bytes left log_last volume_last
AreStays log_bytes volume_bytes left (Tried log volume ∷ stays) log_last volume_last =
    AreFound log_bytes volume_bytes left log volume × AreStays log_bytes volume_bytes (LeftByOpen log volume) stays log_last volume_last
AreStays log_bytes volume_bytes left (Up m ∷ stays) log_last volume_last =
    AreFound log_bytes volume_bytes left m.log m.volume × IsManager m × AreStays log_bytes volume_bytes (AreLeft m.ended) stays log_last volume_last
AreStays log_bytes volume_bytes left (Shared t ∷ stays) log_last volume_last =
    AreFound log_bytes volume_bytes left t.log t.volume × IsInThreads t × AreStays log_bytes volume_bytes (AreLeftInThreads t) stays log_last volume_last

-- ---- as runs of the manager over plain data

-- The run is one from a state that the manager was opened in to one that it ended in, by the moves of its legs. The calls and answers of its history are those of
-- the legs. The front of the log may have changed by moves of the anchor.
pub record IsRunOf {L V : Type 0} {G : Ghosts L} {H : Ghosts V} (m : Manager L V G H) (run : CheckpointedRun) : Type 0 where
  pub log_front : List ℕ
  pub last_front : List ℕ
  pub front : List ℕ
  pub first_disk : ℕ → List ℕ
  pub last_disk : ℕ → List ℕ
  pub opened : IsAt m.opened log_front front first_disk run.first run.ready
  pub moves : moves_among run.events ≡ moves_of_legs m.legs
  pub told : tellings_in run.made ≡ tellings_of_legs [] m.legs
  pub ended : IsAt m.ended last_front front last_disk run.last.state run.last.store

-- .. of one that lost power in threads: its moves are those of its legs, of its trail, and the step under way; and then what was told, and the ask of each ticket that a session has found durable, with the answer that it is.
pub record IsThreadedRunOf {L V : Type 0} {G : Ghosts L} {H : Ghosts V} (t : Threads L V G H) (run : CheckpointedRun) : Type 0 where
  pub log_front : List ℕ
  pub front : List ℕ
  pub first_disk : ℕ → List ℕ
  pub opened : IsAt t.opened log_front front first_disk run.first run.ready
  pub moves : moves_among run.events ≡ (moves_of_legs t.legs ++ t.trail) ++ (t.step ++ moves_among (told_and_asked t.stable t.seen))
  pub before : List Entry
  pub asked : run.made ≡ before ++ entries_of_asks t.seen

-- the managers among stays over plain data
abbrev pub runs_among : List CheckpointedStay → List CheckpointedRun
runs_among [] = []
runs_among (CutOff c ∷ stays) = runs_among stays
runs_among (WasUp run ∷ stays) = run ∷ runs_among stays

-- each manager has its run; an open that came to none is one that lost power, if it got past its barriers
abbrev pub AreRunsOf : {L V : Type 0} {G : Ghosts L} {H : Ghosts V} → List (Stay L V G H) → List CheckpointedRun → Type 0
AreRunsOf [] [] = Unit {0}
AreRunsOf [] (run ∷ runs) = ⊥
AreRunsOf (Tried log volume ∷ stays) runs = AreRunsOf stays runs
AreRunsOf (Up m ∷ stays) [] = ⊥
AreRunsOf (Up m ∷ stays) (run ∷ runs) = IsRunOf m run × AreRunsOf stays runs
AreRunsOf (Shared t ∷ stays) [] = ⊥
AreRunsOf (Shared t ∷ stays) (run ∷ runs) = IsThreadedRunOf t run × AreRunsOf stays runs
