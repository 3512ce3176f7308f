-- An event of the world, as the manager over plain data with its checkpoints has it.
use Rattle.std.specs.Prelude.{ℕ, List, [], ◌∷◌, ◌++◌}
use Rattle.shore_types.specs.declared.faults.Fault.{Fault}
use Rattle.shore_types.specs.declared.faults.Fault.TheVariants.{Device}
use Rattle.shore_model.specs.declared.calls.Answer.{Answer}
use Rattle.shore_model.specs.declared.calls.Answer.TheVariants.{Began, Got, Inserted, Updated, Deleted, Scanned, Locked, Saved, WentBack, Committed, Aborted, Prepared, Resolved, AreInDoubt, Staged, Forced, Flushed, Begun, Ended, Anchored, Moved, Cut, IsDurable}
use Rattle.shore_model.specs.declared.step.Step.{Step}
use Rattle.shore_model.specs.declared.step.Step.TheVariants.{Done, Waits, Refused, Nothing}
use Rattle.laws_calls.specs.Events as calls
use Rattle.laws_calls.specs.Events.{ManagerEvent}
use Rattle.laws_runs.specs.CheckpointSteps.{CheckpointedMove, Checkpoints, Goes}
use Rattle.laws_runs.specs.StoredRuns.{Manage, Tend}
use Rattle.shore_world.specs.declared.event.Event.{Event}
use Rattle.shore_world.specs.declared.event.Event.TheVariants as event

-- `OfManager`: an event of the manager; `OfCheckpoint`: a step of a checkpoint, with what it came to
pub data PlainMove : Type 0 where
  OfManager : ManagerEvent → PlainMove
  OfCheckpoint : Step → PlainMove

-- the moves of a run over plain data, whatever work they make
abbrev pub moves_among : List CheckpointedMove → List PlainMove
moves_among [] = []
moves_among (Goes (Manage e works) ∷ moves) = OfManager e ∷ moves_among moves
moves_among (Goes (Tend works) ∷ moves) = moves_among moves
moves_among (Checkpoints step ∷ moves) = OfCheckpoint step ∷ moves_among moves

-- a step that its device refuses is the failure that the manager is told of
abbrev pub failure_by : Fault → List PlainMove
failure_by Device = OfManager calls.HasFailed ∷ []
failure_by _ = []

-- the number that a step of a force made durable
abbrev pub forced_by : Answer → List PlainMove
forced_by (Forced n) = OfManager (calls.Forced n) ∷ []
forced_by (Began t) = []
forced_by (Got device_bytes) = []
forced_by (Inserted id) = []
forced_by Updated = []
forced_by Deleted = []
forced_by (Scanned pairs) = []
forced_by Locked = []
forced_by (Saved index) = []
forced_by WentBack = []
forced_by (Committed ticket) = []
forced_by Aborted = []
forced_by Prepared = []
forced_by Resolved = []
forced_by (AreInDoubt pairs) = []
forced_by (Staged n) = []
forced_by (Flushed count) = []
forced_by (Begun n) = []
forced_by (Ended n) = []
forced_by (Anchored checkpoint tail) = []
forced_by Moved = []
forced_by Cut = []
forced_by (IsDurable answer) = []

-- the ticket that was asked for, with its answer
abbrev pub asked_by : ℕ → Answer → List PlainMove
asked_by ticket (IsDurable answer) = OfManager (calls.TicketAsked ticket answer) ∷ []
asked_by ticket (Forced n) = []
asked_by ticket (Began t) = []
asked_by ticket (Got device_bytes) = []
asked_by ticket (Inserted id) = []
asked_by ticket Updated = []
asked_by ticket Deleted = []
asked_by ticket (Scanned pairs) = []
asked_by ticket Locked = []
asked_by ticket (Saved index) = []
asked_by ticket WentBack = []
asked_by ticket (Committed given) = []
asked_by ticket Aborted = []
asked_by ticket Prepared = []
asked_by ticket Resolved = []
asked_by ticket (AreInDoubt pairs) = []
asked_by ticket (Staged n) = []
asked_by ticket (Flushed count) = []
asked_by ticket (Begun n) = []
asked_by ticket (Ended n) = []
asked_by ticket (Anchored checkpoint tail) = []
asked_by ticket Moved = []
asked_by ticket Cut = []

-- a call and a resume with what they came to, and a wait that is to be taken back; an ask with its answer; of a force the number that it made durable, or the device's failure; of a flush nothing
-- but the volume's; a step of a checkpoint with what it came to; a cut of the trail leaves no trace
abbrev pub moves_by : Event → Step → List PlainMove
moves_by (event.Call session call) step = OfManager (calls.Called session call step) ∷ []
moves_by (event.Resume session) step = OfManager (calls.Resumed session step) ∷ []
moves_by (event.GiveUp session) step = OfManager (calls.GaveUp session step) ∷ []
moves_by (event.Ask ticket) (Done answer) = asked_by ticket answer
moves_by (event.Ask ticket) (Refused fault) = []
moves_by (event.Ask ticket) (Waits wait) = []
moves_by (event.Ask ticket) Nothing = []
moves_by event.ForceStage (Done answer) = []
moves_by event.ForceStage (Refused fault) = failure_by fault
moves_by event.ForceStage (Waits wait) = []
moves_by event.ForceStage Nothing = []
moves_by event.ForceOpen (Done answer) = forced_by answer
moves_by event.ForceOpen (Refused fault) = failure_by fault
moves_by event.ForceOpen (Waits wait) = []
moves_by event.ForceOpen Nothing = []
moves_by event.FlushStep (Done answer) = []
moves_by event.FlushStep (Refused fault) = failure_by fault
moves_by event.FlushStep (Waits wait) = []
moves_by event.FlushStep Nothing = []
moves_by event.CheckpointStep step = OfCheckpoint step ∷ []
moves_by event.CutTrail step = []

-- .. of all, one after another
abbrev pub all_moves : List Event → List Step → List PlainMove
all_moves (e ∷ es) (step ∷ steps) = moves_by e step ++ all_moves es steps
all_moves [] [] = []
all_moves [] (step ∷ steps) = []
all_moves (e ∷ es) [] = []
