-- What a manager's events tell, read off the events and their steps alone: which call was answered with what, and which ticket was said to be durable or not.
use Rattle.std.specs.Prelude.{◌≡◌, ◌==◌, ℕ, Bool, List, [], ◌∷◌, ◌++◌, Option, None, Some, Ok, Err, if◌then◌else◌, filter_map}
use Rattle.shore_model.specs.declared.calls.Answer.{Answer}
use Rattle.shore_model.specs.declared.calls.Answer.TheVariants.{Aborted, Anchored, AreInDoubt, Began, Begun, Committed, Cut, Deleted, Ended, Flushed, Forced, Got, Inserted, IsDurable, Locked, Moved, Prepared, Resolved, Saved, Scanned, Staged, Updated, WentBack}
use Rattle.shore_model.specs.declared.calls.Call.{Call}
use Rattle.shore_model.specs.declared.calls.Exchange.{Exchange}
use Rattle.shore_model.specs.declared.histories.Entry.{Entry}
use Rattle.shore_model.specs.declared.histories.Entry.TheVariants.{Asked, Exchanged, Decided}
use Rattle.shore_model.specs.declared.step.Step.{Step}
use Rattle.shore_model.specs.declared.step.Step.TheVariants.{Done, Waits, Refused, Nothing}
use Rattle.laws_lives.specs.SessionSteps.{exchange}
use Rattle.laws_lives.specs.Views.{IsAmong}
use Rattle.laws_calls.specs.Events.{ManagerEvent}
use Rattle.laws_calls.specs.Events as calls
use Rattle.laws_calls.specs.States.{State, Waiting}
use Rattle.shore_world.specs.declared.event.Event.{Event}
use Rattle.shore_world.specs.declared.event.Event.TheVariants as event
use Rattle.shore_world.specs.EventMoves.{OfCheckpoint, OfManager, PlainMove}

-- a session was told of its call; or somebody was told of a ticket whether its commit is durable
pub data Telling : Type 0 where
  OfCall : ℕ → Exchange → Telling
  OfTicket : ℕ → Bool → Telling

-- ---- of a history

-- what was told, if the entry says so
abbrev pub telling_in : Entry → Option Telling
telling_in (Exchanged session txn x) = Some (OfCall session x)
telling_in (Decided d) = None
telling_in (Asked ticket answer) = Some (OfTicket ticket answer)

abbrev pub tellings_in : List Entry → List Telling
tellings_in es = filter_map telling_in es

-- ---- of events

-- the call with which the session last began to wait, the newest waits first
abbrev pub last_waited : ℕ → List (ℕ × Call) → Option Call
last_waited session [] = None
last_waited session (w ∷ ws) = if w.0 == session then Some w.1 else last_waited session ws

-- what a step tells the session of its call
abbrev pub told_of : ℕ → Call → Step → List Telling
told_of session c (Done answer) = OfCall session (exchange c (Ok answer)) ∷ []
told_of session c (Refused fault) = OfCall session (exchange c (Err fault)) ∷ []
told_of session c (Waits wait) = []
told_of session c Nothing = []

abbrev pub told_of_waiting : ℕ → Option Call → Step → List Telling
told_of_waiting session None step = []
told_of_waiting session (Some c) step = told_of session c step

-- what the answer to an ask tells
abbrev pub told_of_ticket : ℕ → Answer → List Telling
told_of_ticket ticket (IsDurable answer) = OfTicket ticket answer ∷ []
told_of_ticket ticket (Forced n) = []
told_of_ticket ticket (Began t) = []
told_of_ticket ticket (Got device_bytes) = []
told_of_ticket ticket (Inserted id) = []
told_of_ticket ticket Updated = []
told_of_ticket ticket Deleted = []
told_of_ticket ticket (Scanned pairs) = []
told_of_ticket ticket Locked = []
told_of_ticket ticket (Saved index) = []
told_of_ticket ticket WentBack = []
told_of_ticket ticket (Committed given) = []
told_of_ticket ticket Aborted = []
told_of_ticket ticket Prepared = []
told_of_ticket ticket Resolved = []
told_of_ticket ticket (AreInDoubt pairs) = []
told_of_ticket ticket (Staged n) = []
told_of_ticket ticket (Flushed count) = []
told_of_ticket ticket (Begun n) = []
told_of_ticket ticket (Ended n) = []
told_of_ticket ticket (Anchored checkpoint tail) = []
told_of_ticket ticket Moved = []
told_of_ticket ticket Cut = []

abbrev pub told_of_ask : ℕ → Step → List Telling
told_of_ask ticket (Done answer) = told_of_ticket ticket answer
told_of_ask ticket (Refused fault) = []
told_of_ask ticket (Waits wait) = []
told_of_ask ticket Nothing = []

-- a call is told at once, or by a resume once it waits no more, or as its wait is taken back, and a ticket by an ask; a step of a force, of the flush or of a checkpoint, and a cut of the trail, tell nobody
abbrev pub told_by : List (ℕ × Call) → Event → Step → List Telling
told_by ws (event.Call session c) step = told_of session c step
told_by ws (event.Resume session) step = told_of_waiting session (last_waited session ws) step
told_by ws (event.GiveUp session) step = told_of_waiting session (last_waited session ws) step
told_by ws (event.Ask ticket) step = told_of_ask ticket step
told_by ws event.ForceStage step = []
told_by ws event.ForceOpen step = []
told_by ws event.FlushStep step = []
told_by ws event.CheckpointStep step = []
told_by ws event.CutTrail step = []

-- a call that is neither answered nor refused
abbrev pub waits_behind : List (ℕ × Call) → ℕ → Call → Step → List (ℕ × Call)
waits_behind ws session c (Waits wait) = (session, c) ∷ ws
waits_behind ws session c (Done answer) = ws
waits_behind ws session c (Refused fault) = ws
waits_behind ws session c Nothing = (session, c) ∷ ws

abbrev pub waited_behind : List (ℕ × Call) → Event → Step → List (ℕ × Call)
waited_behind ws (event.Call session c) step = waits_behind ws session c step
waited_behind ws (event.Resume session) step = ws
waited_behind ws (event.GiveUp session) step = ws
waited_behind ws (event.Ask ticket) step = ws
waited_behind ws event.ForceStage step = ws
waited_behind ws event.ForceOpen step = ws
waited_behind ws event.FlushStep step = ws
waited_behind ws event.CheckpointStep step = ws
waited_behind ws event.CutTrail step = ws

-- .. and behind all
abbrev pub waited_after : List (ℕ × Call) → List Event → List Step → List (ℕ × Call)
waited_after ws (e ∷ es) (step ∷ steps) = waited_after (waited_behind ws e step) es steps
waited_after ws [] [] = ws
waited_after ws [] (step ∷ steps) = ws
waited_after ws (e ∷ es) [] = ws

-- what all tell, behind calls that began to wait before them
abbrev pub tellings_of : List (ℕ × Call) → List Event → List Step → List Telling
tellings_of ws (e ∷ es) (step ∷ steps) = told_by ws e step ++ tellings_of (waited_behind ws e step) es steps
tellings_of ws [] [] = []
tellings_of ws [] (step ∷ steps) = []
tellings_of ws (e ∷ es) [] = []

-- ---- of moves of the manager over plain data

abbrev pub told_by_event : List (ℕ × Call) → ManagerEvent → List Telling
told_by_event ws (calls.Called session c step) = told_of session c step
told_by_event ws (calls.Resumed session step) = told_of_waiting session (last_waited session ws) step
told_by_event ws (calls.GaveUp session step) = told_of_waiting session (last_waited session ws) step
told_by_event ws (calls.Forced n) = []
told_by_event ws calls.HasFailed = []
told_by_event ws (calls.TicketAsked ticket answer) = OfTicket ticket answer ∷ []

abbrev pub waited_behind_event : List (ℕ × Call) → ManagerEvent → List (ℕ × Call)
waited_behind_event ws (calls.Called session c step) = waits_behind ws session c step
waited_behind_event ws (calls.Resumed session step) = ws
waited_behind_event ws (calls.GaveUp session step) = ws
waited_behind_event ws (calls.Forced n) = ws
waited_behind_event ws calls.HasFailed = ws
waited_behind_event ws (calls.TicketAsked ticket answer) = ws

-- a step of a checkpoint tells nobody
abbrev pub told_by_move : List (ℕ × Call) → PlainMove → List Telling
told_by_move ws (OfManager e) = told_by_event ws e
told_by_move ws (OfCheckpoint step) = []

abbrev pub waited_behind_move : List (ℕ × Call) → PlainMove → List (ℕ × Call)
waited_behind_move ws (OfManager e) = waited_behind_event ws e
waited_behind_move ws (OfCheckpoint step) = ws

abbrev pub told_in : List (ℕ × Call) → List PlainMove → List Telling
told_in ws [] = []
told_in ws (e ∷ moves) = told_by_move ws e ++ told_in (waited_behind_move ws e) moves

abbrev pub waited_in : List (ℕ × Call) → List PlainMove → List (ℕ × Call)
waited_in ws [] = ws
waited_in ws (e ∷ moves) = waited_in (waited_behind_move ws e) moves

-- ---- of a state

-- each call that waits is the one with which its session last began to wait
abbrev pub AreLast : List (ℕ × Call) → State → Type 0
AreLast ws s = (w : Waiting) → IsAmong w s.waiting → last_waited w.session ws ≡ Some w.call
