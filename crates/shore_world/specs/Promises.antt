-- What stands behind a world that is a manager: the one hidden state that the promises speak of.
use Rattle.std.specs.Prelude.{◌≡◌, ◌≢◌, ◌⊎◌, ◌+◌, ◌-◌, ◌<◌, ◌≤◌, ◌∷◌, ◌++◌, ℕ, List, [], IsTrue, None, Option, Some, drop, false, map}
use Rattle.std.specs.List.{AllByRecursion}
use Rattle.shore_types.specs.declared.faults.Fault.TheVariants.{Deadlock, Device, Failed, Memory}
use Rattle.shore_disk.specs.Device.{size}
use Rattle.shore_disk.specs.declared.device.Disk.{Ghosts}
use Rattle.shore_check.specs.declared.stage.Stage.{Stage}
use Rattle.shore_check.specs.declared.stage.Stage.TheVariants as stage
use Rattle.shore_model.specs.declared.calls.Answer.{Answer}
use Rattle.shore_model.specs.declared.calls.Answer.TheVariants.{Anchored, Begun, Committed, Ended, Flushed, Forced, Moved, Staged}
use Rattle.shore_model.specs.declared.calls.Call.{Call}
use Rattle.shore_model.specs.declared.calls.Call.TheVariants as call
use Rattle.shore_model.specs.declared.histories.Decision.{Decision}
use Rattle.shore_model.specs.declared.histories.Decision.TheVariants.{Commit, RollBack}
use Rattle.shore_model.specs.declared.histories.Entry.{Entry}
use Rattle.shore_model.specs.declared.histories.Opening.{Opening}
use Rattle.shore_model.specs.declared.log_records.LogRecord.{LogRecord}
use Rattle.shore_model.specs.declared.rollbacks.Rollback.{Rollback}
use Rattle.shore_model.specs.declared.step.Step.{Step}
use Rattle.shore_model.specs.declared.step.Step.TheVariants.{Done, Nothing, Refused}
use Rattle.shore_path.specs.Restoring.{NobodyWaits}
use Rattle.shore_flush.specs.Flushes.{Flushes, NoneDue}
use Rattle.shore_heap.specs.Heaps.{pool_of}
use Rattle.shore_core.specs.Cores.{heap_of}
use Rattle.laws_lives.specs.Doubts.{AreRestored, IsOpeningOf}
use Rattle.laws_lives.specs.Sessions.{SessionTxn, in_txn, txns_of}
use Rattle.laws_lives.specs.Soundness.{decided_txn, found_in_doubt, history_from, written_by}
use Rattle.laws_lives.specs.Views.{IsAmong}
use Rattle.shore_model.specs.Histories.{decision_asked_by, decisions, free, in_doubt, session_state}
use Rattle.shore_model.specs.Logs.{logged_writes}
use Rattle.shore_model.specs.Records.{WriteSet}
use Rattle.shore_model.specs.Requests.{held_by_all}
use Rattle.laws_runs.specs.CheckpointSteps.{CheckpointedState}
use Rattle.laws_runs.specs.CheckpointedStates.{IsAtCheckpoints}
use Rattle.laws_orders.specs.InTurns.{IsInOrder}
use Rattle.shore_world.specs.declared.event.Event.{Event}
use Rattle.shore_world.specs.declared.event.Event.TheVariants as event
use Rattle.shore_world.specs.declared.world.World.{World}
use Rattle.shore_world.specs.EventMoves.{moves_by}
use Rattle.shore_world.specs.Exchanges.{AreLast, tellings_in, tellings_of, waited_after, waited_behind}
use Rattle.laws_calls.specs.Events.{ManagerEvent}
use Rattle.shore_world.specs.EventMoves.{OfManager, PlainMove}
use Rattle.laws_calls.specs.Midway.{IsItsCycle}
use Rattle.laws_calls.specs.SessionWaits.{AllBeginWithTheirs, AllWaitThere, HasTheFirst}
use Rattle.laws_calls.specs.States.{State}
use Rattle.laws_calls.specs.StoodCycles.{IsWithin}
use Rattle.shore_world.specs.Labels.{IsLogFront, IsVolumeFront}
use Rattle.shore_world.specs.Legs.{IsUpIn}
use Rattle.shore_world.specs.Lives.{DumpsShow}
use Rattle.shore_world.specs.Worlds.{HasForced, HasMoved, HasStaged, IsAt, IsIdle, IsLogOf, Runs, Steps, anchor_in, cut_in, durable_in, failed_in, geometry_in, history_in, last_in, list_in, requests_in, stream_bytes_in}

-- The world is a manager that opened so, with these records and those in doubt, and since then has come to these entries of its history, and to these calls
-- with which sessions began to wait, the newest first. What else is here a reader of the promises need not know: an open makes such a world, and each run of one another.
pub record IsManagerOf {L V : Type 0} {G : Ghosts L} {H : Ghosts V} (w : World L V G H) (o : Opening) (es : List Entry) (ws : List (ℕ × Call)) : Type 0 where
  pub found : List LogRecord
  pub opening : IsOpeningOf found o
  pub log_front : List ℕ
  pub front : List ℕ
  pub disk : ℕ → List ℕ
  pub now : CheckpointedState
  pub at : IsAt w log_front front disk now.state now.store
  -- the labels at the fronts of both devices, and their limit of the lock table
  pub log_labelled : IsLogFront (geometry_in w) (size (history_in w)) log_front
  pub volume_labelled : IsVolumeFront (geometry_in w) front
  pub limit : now.state.locks.limit ≡ (geometry_in w).max_locks
  pub under_way : IsAtCheckpoints (geometry_in w) (stream_bytes_in w) o found es now
  pub waited : AreLast ws now.state
  pub there : AllWaitThere now.state
  pub firsts : AllBeginWithTheirs now.state
  -- one serial order of its transactions, that of their turns
  pub in_order : IsInOrder (history_from o es)

-- so it is at the state and the store of that manager, behind the labels of its devices
abbrev pub as_up : {L V : Type 0} {G : Ghosts L} {H : Ghosts V} {w : World L V G H} {o : Opening} {es : List Entry} {ws : List (ℕ × Call)} (k : IsManagerOf w o es ws) → IsUpIn w o k.found es
as_up k = record { log_front = k.log_front; front = k.front; disk = k.disk; last = k.now; at = k.at; log_labelled = k.log_labelled; volume_labelled = k.volume_labelled; under_way = k.under_way }

-- the records that the log has gained from one world to a later one, of which this keeps all
abbrev pub gained : {L V : Type 0} {G : Ghosts L} {H : Ghosts V} → World L V G H → World L V G H → List LogRecord
gained old new = drop (last_in old - cut_in new) (list_in new)

-- Those whom the opening has in doubt, and nobody else, are in doubt and under way in the state, each under its name and to be resolved. They hold EX on the granules
-- that their Prepares name in the log that was found, and IX above these. Nobody holds anything else, and nobody waits for a lock.
pub record HasInDoubt {L V : Type 0} {G : Ghosts L} {H : Ghosts V} (w : World L V G H) (o : Opening) (found : List LogRecord) (s : State) : Type 0 where
  pub prepared : s.sessions.prepared ≡ map found_in_doubt o.in_doubt
  pub active : txns_of s.sessions.active ≡ map (λ d. d.txn) o.in_doubt
  pub locks : AreRestored found (held_by_all (requests_in w))
  pub nobody_waits : NobodyWaits (requests_in w)

-- Each of these transactions is not ended: a session is in it, and it is not decided; or it is in doubt, prepared and not decided further; or it was, and it is
-- decided that it is rolled back.
abbrev pub AreUnended : Opening → List Entry → List ℕ → Type 0
AreUnended o es ts = (t : ℕ) → IsAmong t ts →
    ((session : ℕ) × (session_state session free es ≡ in_txn t) × AllByRecursion (λ d. decided_txn d ≢ t) (decisions es))
    ⊎ ((global : List ℕ) × IsAmong (t, global) (in_doubt o.in_doubt (decisions es)))
    ⊎ (IsAmong (RollBack t) (decisions es) × (IsAmong (Commit t) (decisions es) → ⊥))

-- What stands in place for a transaction under way: what it has written; or, while a rollback of it is under way, what it has logged last.
abbrev pub standing_while : Option Rollback → WriteSet → WriteSet → WriteSet
standing_while None written logged = written
standing_while (Some rollback) written logged = logged

abbrev pub standing_for : Opening → List Entry → List LogRecord → SessionTxn → WriteSet
standing_for o es log a = standing_while a.undo.rolling (written_by o es a.txn) (logged_writes log a.txn)

-- The call, with what it has come to, asks for this decision of the transaction: a commit for its Commit, and it is answered; a prepare and a resolve for theirs.
abbrev pub IsAskedFor : ℕ → Call → Step → Decision → Type 0
IsAskedFor t c step d = (decision_asked_by t c ≡ Some d) ⊎ ((c ≡ call.Commit) × ((ticket : ℕ) × (step ≡ Done (Committed ticket))) × (d ≡ Commit t))

-- The world is in this state, as far as it can be seen: its lock requests, what is kept of its log, what of it is durable, whether a device has failed, and what dumps show.
pub record IsStateOf {L V : Type 0} {G : Ghosts L} {H : Ghosts V} (w : World L V G H) (s : State) : Type 0 where
  pub requests : s.locks.requests ≡ requests_in w
  pub log : IsLogOf w s.log
  pub durable : s.durable ≡ durable_in w
  pub failed : s.failed ≡ failed_in w
  pub dumps : DumpsShow w s.sessions.records

-- Behind an event the world is a manager again, and goes on with the history that it had.
pub record GoesOnAs {L V : Type 0} {G : Ghosts L} {H : Ghosts V} (new : World L V G H) (o : Opening) (es : List Entry) (ws : List (ℕ × Call)) (e : Event) (step : Step) : Type 0 where
  pub made : List Entry
  pub manager : IsManagerOf new o (es ++ made) (waited_behind ws e step)

-- A run comes to this event by some events before it, goes on by it, and from there by others to its end.
pub record IsEventOf {L V : Type 0} {G : Ghosts L} {H : Ghosts V} (w : World L V G H) (events : List Event) (steps : List Step) (last : World L V G H) (before : List Event)
    (before_steps : List Step) (start : World L V G H) (e : Event) (step : Step) (next : World L V G H) : Type 0 where
  pub first_moves : List PlainMove
  pub first : Runs w before before_steps first_moves start
  pub one : Steps start e step next
  pub after : List Event
  pub after_steps : List Step
  pub rest_moves : List PlainMove
  pub rest : Runs next after after_steps rest_moves last
  pub events_are : events ≡ before ++ e ∷ after
  pub steps_are : steps ≡ before_steps ++ step ∷ after_steps

-- In the midst of an event of a run this cycle of waits stood, from the session's transaction on, which was the greatest of it: in a state by which the event comes, from the
-- one of the manager that the events before it left, with the calls and answers of these.
pub record HasStood {L V : Type 0} {G : Ghosts L} {H : Ghosts V} (w : World L V G H) (o : Opening) (es : List Entry) (ws : List (ℕ × Call)) (events : List Event) (steps : List Step)
    (last : World L V G H) (session : ℕ) (cycle : List ℕ) : Type 0 where
  pub before : List Event
  pub before_steps : List Step
  pub start : World L V G H
  pub during : Event
  pub step : Step
  pub next : World L V G H
  pub of_run : IsEventOf w events steps last before before_steps start during step next
  pub made : List Entry
  pub entries : List Entry
  pub goes_on : entries ≡ es ++ made
  pub told : tellings_in made ≡ tellings_of ws before before_steps
  pub manager : IsManagerOf start o entries (waited_after ws before before_steps)
  pub on : GoesOnAs next o entries (waited_after ws before before_steps) during step
  -- the event as the manager over plain data has it
  pub move : ManagerEvent
  pub is_move : moves_by during step ≡ OfManager move ∷ []
  pub mid : State
  pub within : IsWithin (geometry_in start) manager.now.state move on.manager.now.state mid
  pub stood : IsItsCycle mid session cycle

-- The session of a refused resume is told this cycle, in the transaction with which the cycle begins: the one that was taken as its victim.
pub record IsToldByItsFirst {L V : Type 0} {G : Ghosts L} {H : Ghosts V} (new : World L V G H) (o : Opening) (ws : List (ℕ × Call)) (session : ℕ) (cycle : List ℕ) : Type 0 where
  pub entries : List Entry
  pub on : GoesOnAs new o entries ws (event.Resume session) (Refused (Deadlock cycle))
  pub first : HasTheFirst on.manager.now.state session cycle

-- ---- steps

-- a step that no session asks for is refused: a device has failed, before or now
abbrev pub HasFailedStep : {L V : Type 0} {G : Ghosts L} {H : Ghosts V} → World L V G H → Step → Type 0
HasFailedStep w step = (IsTrue (failed_in w) × (step ≡ Refused Failed)) ⊎ ((failed_in w ≡ false) × (step ≡ Refused Device))

-- .. or memory is short
abbrev pub IsRefusedStep : {L V : Type 0} {G : Ghosts L} {H : Ghosts V} → World L V G H → Step → Type 0
IsRefusedStep w step = HasFailedStep w step ⊎ ((failed_in w ≡ false) × (step ≡ Refused Memory))

-- The longest list of the records not yet durable is staged that one frame holds, the last of this number; or a frame is under way, or there is none of them.
abbrev pub StagesIfAny : {L V : Type 0} {G : Ghosts L} {H : Ghosts V} → World L V G H → Step → World L V G H → Type 0
StagesIfAny w step new =
    (IsIdle w × (step ≡ Nothing))
    ⊎ ((IsIdle w → ⊥) × ((n : ℕ) × (step ≡ Done (Staged n)) × (durable_in w < n) × (n ≤ last_in w) × HasStaged w new n))

-- the frame that was under way is durable now, up to its last record, of this number; or none was
abbrev pub OpensIfAny : {L V : Type 0} {G : Ghosts L} {H : Ghosts V} → World L V G H → Step → World L V G H → Type 0
OpensIfAny w step new =
    ((w.log.staged ≡ None) × (step ≡ Nothing))
    ⊎ ((n : ℕ) × (step ≡ Done (Forced n)) × (durable_in w < n) × (n ≤ last_in w) × HasForced w new n × (durable_in new ≡ n))

-- so many pages were written back, the first of the volume that are due; or none is due
abbrev pub FlushesIfAny : {L V : Type 0} {G : Ghosts L} {H : Ghosts V} → World L V G H → Step → World L V G H → Type 0
FlushesIfAny w step new =
    (NoneDue (pool_of (heap_of w.core)) (durable_in w) × (step ≡ Nothing))
    ⊎ ((NoneDue (pool_of (heap_of w.core)) (durable_in w) → ⊥)
    × ((count : ℕ) × (step ≡ Done (Flushed count)) × (0 < count) × Flushes (pool_of (heap_of w.core)) (pool_of (heap_of new.core)) (durable_in w) count))

-- the number that the next step of a checkpoint needs durable, 0 if none
abbrev pub awaited_at : Stage → ℕ
awaited_at stage.Resting = 0
awaited_at (stage.Begun b) = 0
awaited_at (stage.Ended e) = e.number
awaited_at (stage.Named m) = m.number

-- What a step of a checkpoint answers that is made: the begin and the End the number of their record, the next of the log; the Anchor record what it says; and behind the
-- move the anchor is one of a later checkpoint, that of the Anchor record, with a tail no higher than it says and no lower than before: of the frames that were kept, just those
-- are let go that end before it (`HasMoved`).
abbrev pub CheckpointAnswer : {L V : Type 0} {G : Ghosts L} {H : Ghosts V} → Stage → World L V G H → Answer → World L V G H → Type 0
CheckpointAnswer stage.Resting w answer new = answer ≡ Begun (last_in w + 1)
CheckpointAnswer (stage.Begun b) w answer new = answer ≡ Ended (last_in w + 1)
CheckpointAnswer (stage.Ended e) w answer new = answer ≡ Anchored e.mark.checkpoint e.mark.tail
CheckpointAnswer (stage.Named m) w answer new =
    (answer ≡ Moved) × ((anchor_in new).checkpoint ≡ m.mark.checkpoint) × ((anchor_in w).checkpoint < m.mark.checkpoint)
    × ((anchor_in w).tail ≤ (anchor_in new).tail) × ((anchor_in new).tail ≤ m.mark.tail) × HasMoved w new

-- The next step of a checkpoint is made, or it needs a number that is not durable.
abbrev pub ChecksIfAny : {L V : Type 0} {G : Ghosts L} {H : Ghosts V} → World L V G H → Step → World L V G H → Type 0
ChecksIfAny w step new =
    ((durable_in w < awaited_at w.stage) × (step ≡ Nothing))
    ⊎ ((awaited_at w.stage ≤ durable_in w) × ((answer : Answer) × (step ≡ Done answer) × CheckpointAnswer w.stage w answer new))

-- The state is as before, but for its log and the room that this has, and for a failure of a device.
abbrev pub IsSameButForLog : State → State → Type 0
IsSameButForLog s new = new ≡ record s { log = new.log; stream_bytes = new.stream_bytes; failed = new.failed }
