-- What a manager does from its open on, in legs: events of one caller, and threads that its world was handed to and has come back from.
use Rattle.std.specs.Prelude.{◌≡◌, ◌≢◌, ◌≤◌, ◌++◌, ℕ, List, [], ◌∷◌, All, take, true}
use Rattle.shore_types.specs.declared.faults.Fault.TheVariants.{LogFull}
use Rattle.shore_disk.specs.Device.{size}
use Rattle.shore_disk.specs.declared.device.Disk.{Ghosts}
use Rattle.shore_model.specs.declared.calls.Call.{Call}
use Rattle.shore_model.specs.declared.histories.Entry.{Entry}
use Rattle.shore_model.specs.declared.histories.Opening.{Opening}
use Rattle.shore_model.specs.declared.log_records.LogRecord.{LogRecord}
use Rattle.shore_model.specs.declared.step.Step.{Step}
use Rattle.shore_model.specs.declared.step.Step.TheVariants.{Refused}
use Rattle.laws_calls.specs.Events.{TicketAsked}
use Rattle.laws_runs.specs.CheckpointedStates.{IsAtCheckpoints}
use Rattle.laws_runs.specs.CheckpointSteps.{CheckpointedMove, CheckpointedMoves, CheckpointedState}
use Rattle.shore_world.specs.declared.event.Event.{Event}
use Rattle.shore_world.specs.declared.event.Event.TheVariants as event
use Rattle.shore_world.specs.declared.world.World.{World}
use Rattle.shore_world.specs.Events.{IsServedEvent}
use Rattle.shore_world.specs.EventMoves.{OfManager, PlainMove, moves_among}
use Rattle.shore_world.specs.Exchanges.{OfTicket, Telling, tellings_of, told_in, waited_after, waited_in}
use Rattle.shore_world.specs.Labels.{IsLogFront, IsVolumeFront}
use Rattle.shore_world.specs.Worlds.{IsAt, Runs, durable_in, geometry_in, history_in, stream_bytes_in}

-- ---- threads

-- The world is at the state and the store of a manager that was opened and made these entries, behind the labels of its devices.
pub record IsUpIn {L V : Type 0} {G : Ghosts L} {H : Ghosts V} (w : World L V G H) (opening : Opening) (found : List LogRecord) (entries : List Entry) : Type 0 where
  pub log_front : List ℕ
  pub front : List ℕ
  pub disk : ℕ → List ℕ
  pub last : CheckpointedState
  pub at : IsAt w log_front front disk last.state last.store
  pub log_labelled : IsLogFront (geometry_in w) (size (history_in w)) log_front
  pub volume_labelled : IsVolumeFront (geometry_in w) front
  pub under_way : IsAtCheckpoints (geometry_in w) (stream_bytes_in w) opening found entries last

-- Of a state that the one world was at: moves over plain data that are this trail have led from it to one that the other is at, behind the same front of the volume. The label of the log has stayed.
pub record IsLedTo {L V : Type 0} {G : Ghosts L} {H : Ghosts V} {old : World L V G H} {opening : Opening} {found : List LogRecord} {entries : List Entry} (up : IsUpIn old opening found entries)
    (trail : List PlainMove) (new : World L V G H) : Type 0 where
  pub geometry : geometry_in new ≡ geometry_in old
  pub long : size (history_in new) ≡ size (history_in old)
  pub plain : List CheckpointedMove
  pub last : CheckpointedState
  pub made : List Entry
  pub moves : CheckpointedMoves (geometry_in old) up.last plain last made
  pub are : moves_among plain ≡ trail
  pub last_front : List ℕ
  pub disk : ℕ → List ℕ
  pub at : IsAt new last_front up.front disk last.state last.store
  pub label : take 512 last_front ≡ take 512 up.log_front

-- Threads have led the one world on to the other by this trail, from whatever state of a manager it was at.
abbrev pub ThreadsLead : {L V : Type 0} {G : Ghosts L} {H : Ghosts V} → World L V G H → List PlainMove → World L V G H → Type 0
ThreadsLead old trail new = (opening : Opening) (found : List LogRecord) (entries : List Entry) (up : IsUpIn old opening found entries) → ∥ IsLedTo up trail new ∥₁

-- ---- legs

-- `ByEvents`: these events, which come to these steps and are these moves over plain data; `ByThreads`: what was asked of the core in threads and what that came to, as moves, and the tickets that sessions
-- have found durable there. Each leads to this world.
pub data Leg (L V : Type 0) (G : Ghosts L) (H : Ghosts V) : Type 0 where
  ByEvents : List Event → List Step → List PlainMove → World L V G H → Leg L V G H
  ByThreads : List PlainMove → List ℕ → World L V G H → Leg L V G H

-- what sessions have found durable in threads could be asked behind them, and is answered so
abbrev pub moves_of_asks : List ℕ → List PlainMove
moves_of_asks [] = []
moves_of_asks (ticket ∷ tickets) = OfManager (TicketAsked ticket true) ∷ moves_of_asks tickets

abbrev pub tellings_of_asks : List ℕ → List Telling
tellings_of_asks [] = []
tellings_of_asks (ticket ∷ tickets) = OfTicket ticket true ∷ tellings_of_asks tickets

-- They lead from the one world to the other, each from where the one before it has led. What sessions have found durable in threads is, in the world that comes back from these.
abbrev pub AreLegs : {L V : Type 0} {G : Ghosts L} {H : Ghosts V} → World L V G H → List (Leg L V G H) → World L V G H → Type 0
AreLegs old [] new = new ≡ old
AreLegs old (ByEvents events steps moves mid ∷ legs) new = (All IsServedEvent events × Runs old events steps moves mid) × AreLegs mid legs new
AreLegs old (ByThreads trail tickets mid ∷ legs) new = (ThreadsLead old trail mid × All (λ n. n ≤ durable_in mid) tickets) × AreLegs mid legs new

abbrev pub moves_of_legs : {L V : Type 0} {G : Ghosts L} {H : Ghosts V} → List (Leg L V G H) → List PlainMove
moves_of_legs [] = []
moves_of_legs (ByEvents events steps moves mid ∷ legs) = moves ++ moves_of_legs legs
moves_of_legs (ByThreads trail tickets mid ∷ legs) = trail ++ (moves_of_asks tickets ++ moves_of_legs legs)

-- which call was answered with what, and which ticket was said to be durable or not, behind calls that began to wait before
abbrev pub tellings_of_legs : {L V : Type 0} {G : Ghosts L} {H : Ghosts V} → List (ℕ × Call) → List (Leg L V G H) → List Telling
tellings_of_legs ws [] = []
tellings_of_legs ws (ByEvents events steps moves mid ∷ legs) = tellings_of ws events steps ++ tellings_of_legs (waited_after ws events steps) legs
tellings_of_legs ws (ByThreads trail tickets mid ∷ legs) = told_in ws trail ++ (tellings_of_asks tickets ++ tellings_of_legs (waited_in ws trail) legs)

-- ---- room

-- no force of these was refused by `LogFull`
abbrev pub NoForceIsFull : List Event → List Step → Type 0
NoForceIsFull (e ∷ es) (step ∷ steps) = (e ≡ event.ForceStage → step ≢ Refused LogFull) × NoForceIsFull es steps
NoForceIsFull [] [] = Unit {0}
NoForceIsFull [] (step ∷ steps) = ⊥
NoForceIsFull (e ∷ es) [] = ⊥

abbrev pub NoForceIsFullIn : {L V : Type 0} {G : Ghosts L} {H : Ghosts V} → List (Leg L V G H) → Type 0
NoForceIsFullIn [] = Unit {0}
NoForceIsFullIn (ByEvents events steps moves mid ∷ legs) = NoForceIsFull events steps × NoForceIsFullIn legs
NoForceIsFullIn (ByThreads trail tickets mid ∷ legs) = NoForceIsFullIn legs
