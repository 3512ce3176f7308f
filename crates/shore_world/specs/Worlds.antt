-- What a world is, what an event does to it, and what a crash leaves of it.
use Rattle.std.specs.Prelude.{◌≡◌, ◌≢◌, ◌⊎◌, ◌↔◌, ℕ, ◌+◌, ◌-◌, ◌<◌, ◌≤◌, List, [], ◌∷◌, ◌++◌, Bool, false, true, IsTrue, IsSome, IsSomeAnd, MatchResult, None, Result, Ok, Err, length, take, drop}
use Rattle.shore_types.specs.declared.faults.Fault.{Fault}
use Rattle.shore_types.specs.declared.faults.Fault.TheVariants.{Device, Failed, LogFull, Memory, NotQuiet}
use Rattle.shore_types.specs.declared.ids.Rid.{Rid}
use Rattle.shore_types.specs.declared.layout.Geometry.{Geometry}
use Rattle.shore_types.specs.declared.layout.TheConstants.{LOG_FRONT_BYTES, LONGEST_FRAME}
use Rattle.shore_disk.specs.Device.{DeviceHistory, size, may_leave, LeavesOnly}
use Rattle.shore_disk.specs.declared.device.Disk.{Ghosts}
use Rattle.shore_gate.specs.Moves.{moved}
use Rattle.shore_gate.specs.declared.anchors.Anchor.{Anchor}
use Rattle.shore_gate.specs.declared.anchors.Anchors.{Anchors}
use Rattle.shore_check.specs.Stages as stages
use Rattle.shore_check.specs.declared.stage.Named.{Named}
use Rattle.shore_check.specs.declared.stage.Stage.TheVariants as stage
use Rattle.shore_model.specs.declared.calls.Answer.{Answer}
use Rattle.shore_model.specs.declared.calls.Answer.TheVariants.{Aborted, Anchored, AreInDoubt, Began, Begun, Committed, Cut, Deleted, Ended, Flushed, Forced, Got, Inserted, IsDurable, Locked, Moved, Prepared, Resolved, Saved, Scanned, Staged, Updated, WentBack}
use Rattle.shore_model.specs.declared.log_records.LogRecord.{LogRecord}
use Rattle.shore_model.specs.declared.log_records.Payload.TheVariants as payload
use Rattle.shore_model.specs.Records.{part_of, scan_of}
use Rattle.shore_model.specs.declared.requests.Request.{Request}
use Rattle.shore_model.specs.declared.step.Step.{Step}
use Rattle.shore_model.specs.declared.step.Step.TheVariants.{Done, Nothing, Refused, Waits}
use Rattle.laws_calls.specs.Events.{Called, HasFailed, Resumed}
use Rattle.laws_calls.specs.StateChanges.{with_durable, with_failure}
use Rattle.laws_calls.specs.Events as calls
use Rattle.laws_calls.specs.GivingUp.{GiveUpStep}
use Rattle.laws_calls.specs.Settling.{SettledCall, SettledResume}
use Rattle.laws_calls.specs.CallSteps.{txn_count}
use Rattle.laws_calls.specs.States.{State, cost_of_log, next_number}
use Rattle.shore_frames.specs.Frames.{GivesBehindFrom, IsLongest}
use Rattle.shore_log.specs.Settled.{HoldsFrom, IsAnchored, IsCutTo, IsLeftByMove, IsStagedFrom, anchor_of, cut_of_log, next_anchor, records_of_log, stable}
use Rattle.shore_fronts.specs.Causes.{HasCauseOfPair}
use Rattle.shore_pool.specs.Pools.{PoolHolds}
use Rattle.shore_heap.specs.Heaps.{WroteBack, limit_of, pool_of}
use Rattle.laws_lives.specs.Recovery.{RecoveryEvent}
use Rattle.laws_checkpoints.specs.Checkpoints.{Checkpoint, cut_of, end_payload, of_checkpoint}
use Rattle.laws_checkpoints.specs.CheckpointedStores.{CheckpointedStore}
use Rattle.laws_checkpoints.specs.RingRooms.{HasRingRoom}
use Rattle.laws_checkpoints.specs.StoresInOrder.{IsInOrder}
use Rattle.laws_runs.specs.CheckpointSteps.{CheckpointMoves, CheckpointedState, log_limit, ring_room, with_record}
use Rattle.laws_runs.specs.CheckpointedStates.{BeganBehind}
use Rattle.shore_core.specs.Checkpointing.{IsFullFor, IsRoomyFor, with_store}
use Rattle.shore_core.specs.Stores.{WorksOn}
use Rattle.shore_core.specs.Cores as cores
use Rattle.shore_core.specs.Cores.{IsIn, IsOver, IsSafe}
use Rattle.shore_core.specs.Flushing.{AreFlushes, FlushAnswers, FlushMoves}
use Rattle.shore_core.specs.Replies.{Earns, NeedsForceIn, SameVolume, fault_at}
use Rattle.shore_core.specs.Resumes.{NoneWaits}
use Rattle.shore_core.specs.Trails.{AnswersCut}
use Rattle.shore_restart.specs.declared.passes.Report.{Report}
use Rattle.laws_images.specs.Moments.{ShowsLeft}
use Rattle.laws_images.specs.StandsBehind.{anchored_by}
use Rattle.shore_world.specs.declared.event.Event.{Event}
use Rattle.shore_world.specs.declared.event.Event.TheVariants as event
use Rattle.shore_world.specs.declared.world.World.{World}
use Rattle.shore_world.specs.Events.{IsNoCall, IsOfCheckpoint, IsOfForce, IsOfPages, ReadBy, force_needed_at}
use Rattle.shore_world.specs.EventMoves.{OfCheckpoint, OfManager, PlainMove, moves_by}
use Rattle.shore_world.specs.Ready.{IsReadyLog}

-- ---- what it has

module _ {L V : Type 0} {G : Ghosts L} {H : Ghosts V} where
  -- every record that is kept: those of the log device, and those that wait in the core's log buffer
  abbrev pub list_in : World L V G H → List LogRecord
  list_in w = records_of_log w.log ++ cores.waiting_of w.core

  -- how many records of the log stand before these, which are cut off
  abbrev pub cut_in : World L V G H → ℕ
  cut_in w = cut_of_log w.log

  -- the number of the last record
  abbrev pub last_in : World L V G H → ℕ
  last_in w = cut_in w + length (list_in w)

  -- the number of the last durable record
  abbrev pub durable_in : World L V G H → ℕ
  durable_in w = cores.durable_of w.core

  -- how many of those that are kept are durable, and the others
  abbrev pub forced_in : World L V G H → ℕ
  forced_in w = length (stable w.log)

  abbrev pub unforced_in : World L V G H → List LogRecord
  unforced_in w = drop (forced_in w) (list_in w)

  -- the anchor that counts: where the log is read from, and with which checkpoint
  abbrev pub anchors_in : World L V G H → Anchors
  anchors_in w = w.log.anchors

  abbrev pub anchor_in : World L V G H → Anchor
  anchor_in w = anchor_of w.log

  -- These are all records of the log, of which what the world has is kept.
  pub record IsLogOf (w : World L V G H) (log : List LogRecord) : Type 0 where
    pub within : cut_in w ≤ length log
    pub kept : drop (cut_in w) log ≡ list_in w

  -- a device has failed
  abbrev pub failed_in : World L V G H → Bool
  failed_in w = cores.has_failed w.core

  abbrev pub geometry_in : World L V G H → Geometry
  geometry_in w = cores.geometry_of w.core

  -- the requests of its lock table
  abbrev pub requests_in : World L V G H → List Request
  requests_in w = (cores.locks_of w.core).requests

  -- how many frames it has for pages
  abbrev pub frames_in : World L V G H → ℕ
  frames_in w = limit_of (cores.heap_of w.core)

  -- what the restart did that opened it
  abbrev pub report_in : World L V G H → Report
  report_in w = w.report

  -- the calls of its log device
  abbrev pub history_in : World L V G H → DeviceHistory
  history_in w = G.history w.log.device

  -- and those of its volume
  abbrev pub volume_history_in : World L V G H → DeviceHistory
  volume_history_in w = cores.history_of w.core

  -- the records before those of the log buffer: what is cut off of the state's, and the log device's
  abbrev pub before_in : World L V G H → State → List LogRecord
  before_in w s = take (cut_in w) s.log ++ records_of_log w.log

  -- It is in this state of the manager over plain data, on a volume with these texts of its pages behind this front.
  abbrev pub IsInState : World L V G H → List ℕ → (ℕ → List ℕ) → State → Type 0
  IsInState w front disk s = IsIn front disk (before_in w s) w.core s

  -- .. and over this store of plain data, which has its log and its pages
  abbrev pub IsOverStore : World L V G H → (ℕ → List ℕ) → State → CheckpointedStore → Type 0
  IsOverStore w disk s store = IsOver disk w.core s store

  -- a dump of the store answers these: its records in place, in whatever state the world is
  abbrev pub IsDumpOf : World L V G H → ℕ → List (Rid × List ℕ) → Type 0
  IsDumpOf w store pairs = (front : List ℕ) (disk : ℕ → List ℕ) (s : State) (kept : CheckpointedStore) → IsInState w front disk s → IsSafe (geometry_in w) s
      → IsOverStore w disk s kept → pairs ≡ scan_of store s.sessions.records

  -- the records on the pages of a store from one on and before another are these, in whatever state the world is
  abbrev pub IsPartOf : World L V G H → ℕ → ℕ → ℕ → List (Rid × List ℕ) → Type 0
  IsPartOf w store from to part = (front : List ℕ) (disk : ℕ → List ℕ) (s : State) (kept : CheckpointedStore) → IsInState w front disk s → IsSafe (geometry_in w) s
      → IsOverStore w disk s kept → part ≡ part_of store from to s.sessions.records

  -- the log is of this length, without its front
  abbrev pub stream_bytes_in : World L V G H → ℕ
  stream_bytes_in w = size (history_in w) - LOG_FRONT_BYTES

-- ---- what an event does to the state

-- a frame was not staged: a device had failed before; or it fails now, which the core is told; or the log has no room for it, and nothing was done
abbrev pub ForceRefused : State → Fault → State → Type 0
ForceRefused s fault new =
    (IsTrue s.failed × (fault ≡ Failed) × (new ≡ s))
    ⊎ ((s.failed ≡ false) × (fault ≡ Device) × (new ≡ with_failure s))
    ⊎ ((s.failed ≡ false) × (fault ≡ LogFull) × (new ≡ s))

-- a step of a checkpoint was not made: the same, but that memory may be short too
abbrev pub CheckpointRefused : State → Fault → State → Type 0
CheckpointRefused s fault new =
    (IsTrue s.failed × (fault ≡ Failed) × (new ≡ s))
    ⊎ ((s.failed ≡ false) × (fault ≡ Device) × (new ≡ with_failure s))
    ⊎ ((s.failed ≡ false) × ((fault ≡ Memory) ⊎ (fault ≡ LogFull)) × (new ≡ s))

-- a gate was not opened: a device had failed before, or it fails now, which the core is told
abbrev pub OpenRefused : State → Fault → State → Type 0
OpenRefused s fault new =
    (IsTrue s.failed × (fault ≡ Failed) × (new ≡ s))
    ⊎ ((s.failed ≡ false) × (fault ≡ Device) × (new ≡ with_failure s))

-- what a step of a checkpoint does to the state: its record is logged, or what is cut off is free
abbrev pub NotesCheckpoint : State → Answer → State → Type 0
NotesCheckpoint s (Begun n) new = (n ≡ next_number s) × (new ≡ with_record (of_checkpoint payload.CheckpointBegin) s)
NotesCheckpoint s (Ended n) new = (c : Checkpoint) × (n ≡ next_number s) × (new ≡ with_record (of_checkpoint (end_payload c)) s)
NotesCheckpoint s (Anchored checkpoint tail) new = new ≡ with_record (of_checkpoint (payload.Anchor checkpoint tail)) s
NotesCheckpoint s Moved new = (freed : ℕ) × (new ≡ record s { stream_bytes = s.stream_bytes + freed })
NotesCheckpoint s (Began t) new = ⊥
NotesCheckpoint s (Got bytes) new = ⊥
NotesCheckpoint s (Inserted id) new = ⊥
NotesCheckpoint s Updated new = ⊥
NotesCheckpoint s Deleted new = ⊥
NotesCheckpoint s (Scanned pairs) new = ⊥
NotesCheckpoint s Locked new = ⊥
NotesCheckpoint s (Saved n) new = ⊥
NotesCheckpoint s WentBack new = ⊥
NotesCheckpoint s (Committed ticket) new = ⊥
NotesCheckpoint s Aborted new = ⊥
NotesCheckpoint s Prepared new = ⊥
NotesCheckpoint s Resolved new = ⊥
NotesCheckpoint s (AreInDoubt pairs) new = ⊥
NotesCheckpoint s (Staged n) new = ⊥
NotesCheckpoint s (Forced n) new = ⊥
NotesCheckpoint s (Flushed n) new = ⊥
NotesCheckpoint s Cut new = ⊥
NotesCheckpoint s (IsDurable answer) new = ⊥

-- .. or it does nothing, or is refused
abbrev pub CheckpointsState : State → Step → State → Type 0
CheckpointsState s (Done answer) new = (s.failed ≡ false) × NotesCheckpoint s answer new
CheckpointsState s Nothing new = (s.failed ≡ false) × (new ≡ s)
CheckpointsState s (Refused fault) new = CheckpointRefused s fault new
CheckpointsState s (Waits wait) new = ⊥

-- the trail was not cut: a device had failed before, or a transaction is under way
abbrev pub CutRefused : State → Fault → Type 0
CutRefused s fault = (IsTrue s.failed × (fault ≡ Failed)) ⊎ ((s.failed ≡ false) × (0 < txn_count s) × (fault ≡ NotQuiet))

-- An ask tells whether a ticket's Commit is durable, whatever has failed. A force is made in two steps, and only the second makes records durable. A step of
-- the flush leaves the state, but for a failure of the volume. What a step of a checkpoint does beside, the state does not have. A cut of the
-- trail leaves it too.
abbrev pub EventStep : Geometry → State → Event → Step → State → Type 0
EventStep g s (event.Call session call) step new = SettledCall g s session call step new
EventStep g s (event.Resume session) step new = SettledResume g s session step new
EventStep g s (event.GiveUp session) step new = GiveUpStep s session step new
EventStep g s (event.Ask ticket) (Done (IsDurable answer)) new = ((answer ≡ true) ↔ (ticket ≤ s.durable)) × (new ≡ s)
EventStep g s event.ForceStage (Done (Staged n)) new = (s.failed ≡ false) × (s.durable < n) × (n ≤ length s.log) × (new ≡ s)
EventStep g s event.ForceStage Nothing new = (s.failed ≡ false) × (new ≡ s)
EventStep g s event.ForceStage (Refused fault) new = ForceRefused s fault new
EventStep g s event.ForceOpen (Done (Forced n)) new = (s.failed ≡ false) × (s.durable < n) × (n ≤ length s.log) × (new ≡ with_durable n s)
EventStep g s event.ForceOpen Nothing new = (s.failed ≡ false) × (new ≡ s)
EventStep g s event.ForceOpen (Refused fault) new = OpenRefused s fault new
EventStep g s event.FlushStep step new = FlushMoves s step new
EventStep g s event.CheckpointStep step new = CheckpointsState s step new
EventStep g s event.CutTrail (Done Cut) new = (s.failed ≡ false) × (txn_count s ≡ 0) × (new ≡ s)
EventStep g s event.CutTrail (Refused fault) new = CutRefused s fault × (new ≡ s)
EventStep g s event step new = ⊥

-- A checkpoint may go on over this state and store: that is in order, what is still to be logged for it has room, and the log may cost what the stream has and what is cut
-- off; one under way began behind the anchored one.
pub record MayCheckpoint (ring_bytes : ℕ) (m : CheckpointedState) : Type 0 where
  pub in_order : IsInOrder m.store
  pub room : HasRingRoom (ring_room m)
  pub limit : m.state.stream_bytes ≡ log_limit ring_bytes (cut_of m.store.anchored) m.state.log
  pub later : BeganBehind m.store.anchored.checkpoint m.store.stage

-- ---- what a crash leaves

module _ {L V : Type 0} {G : Ghosts L} {H : Ghosts V} where
  -- Behind this front, from where the log is read, the frames of the image give a prefix of what is kept, with all that is durable.
  abbrev pub GivesList : World L V G H → List ℕ → List ℕ → Type 0
  GivesList w front image =
      (n : ℕ) × (forced_in w ≤ n) × (n ≤ length (list_in w)) × GivesBehindFrom front (anchor_in w).tail (anchor_in w).tail_place (take n (list_in w)) image

  -- The next step of the checkpoint is the move of the anchor, to this one: its Anchor record is durable.
  pub record IsNextIn (w : World L V G H) (next : Anchor) : Type 0 where
    pub named : Named
    pub at : w.stage ≡ stage.Named named
    pub durable : named.number ≤ durable_in w
    pub anchor : next ≡ next_anchor w.log named.mark.checkpoint named.mark.tail

  -- A crash leaves such an image behind this front. Where the anchor is to be moved next, it may be one that is left amid its move, in which the anchor that
  -- counted does still, or the next one: so it is behind a move that has failed.
  abbrev pub IsLeftOfLog : World L V G H → List ℕ → List ℕ → Type 0
  IsLeftOfLog w front image = GivesList w front image ⊎ ((next : Anchor) × IsNextIn w next × IsLeftByMove (anchors_in w) next front (stable w.log) image)

  -- Behind this front, in which its anchor counts, a crash now leaves a prefix of the list with all that is durable; and as long as no device has failed
  -- the next force can be made, and the next move.
  pub record SurvivesCrashes (w : World L V G H) (front : List ℕ) : Type 0 where
    pub images : (c : List ℕ) → may_leave (history_in w) c → IsLeftOfLog w front c
    pub anchored : IsAnchored w.log front
    pub ready : failed_in w ≡ false → IsReadyLog w.log front

  -- The world is in this state, over this store, and a crash now leaves of both devices what the store may lose power with. Its checkpoint has come as far as the store's,
  -- and the log is read from the store's anchor on.
  pub record IsAt (w : World L V G H) (log_front front : List ℕ) (disk : ℕ → List ℕ) (s : State) (store : CheckpointedStore) : Type 0 where
    pub is_in : IsInState w front disk s
    pub over : IsOverStore w disk s store
    pub log : SurvivesCrashes w log_front
    pub volume : (c : List ℕ) → may_leave (volume_history_in w) c → ShowsLeft (geometry_in w) front store.store c
    pub stage : stages.IsAt w.stage store.stage
    pub anchored : store.anchored ≡ anchored_by (anchor_in w)

  -- Nothing has changed that a call, a dump or a crash could tell: it is at the same states, over the same stores. No call of a device was made, and each page is
  -- in the frame in which it was.
  pub record IsUnchanged (old new : World L V G H) : Type 0 where
    pub at : (log_front front : List ℕ) (disk : ℕ → List ℕ) (s : State) (store : CheckpointedStore) → IsAt old log_front front disk s store → IsAt new log_front front disk s store
    pub device : new.log.device ≡ old.log.device
    pub pool : pool_of (cores.heap_of new.core) ≡ pool_of (cores.heap_of old.core)
    pub list : list_in new ≡ list_in old
    pub durable : durable_in new ≡ durable_in old
    pub failed : failed_in new ≡ failed_in old
    pub staged : new.log.staged ≡ old.log.staged
    pub anchors : anchors_in new ≡ anchors_in old
    pub stage : new.stage ≡ old.stage
    pub report : report_in new ≡ report_in old

  -- so it is of the state and store that the world is at, as long as a checkpoint may go on over them
  abbrev pub ForCheckpoint : World L V G H → (CheckpointedState → Type 0) → Type 0
  ForCheckpoint w P = (log_front front : List ℕ) (disk : ℕ → List ℕ) (s : State) (store : CheckpointedStore) → IsAt w log_front front disk s store → IsSafe (geometry_in w) s
      → MayCheckpoint (stream_bytes_in w) (with_store s store) → P (with_store s store)

  -- A checkpoint that begins now has its room, or has none, though all frames that the device has are counted as free that end before its cut point.
  abbrev pub IsRoomyIn : World L V G H → CheckpointedState → Type 0
  IsRoomyIn w m = (groups : List (List LogRecord)) × HoldsFrom (anchor_in w).tail (anchor_in w).tail_place w.log groups × IsRoomyFor (anchor_in w).tail groups m

  abbrev pub IsFullIn : World L V G H → CheckpointedState → Type 0
  IsFullIn w m = (groups : List (List LogRecord)) × HoldsFrom (anchor_in w).tail (anchor_in w).tail_place w.log groups × IsFullFor (anchor_in w).tail groups m

  -- there is no frame to stage: one is under way, or every record is durable
  abbrev pub IsIdle : World L V G H → Type 0
  IsIdle w = IsSome w.log.staged ⊎ (durable_in w ≡ last_in w)

  -- From a state and a store the world has come to others: pages may have been written back, a record appended and done on its page, or a force told.
  pub record WorldComesTo (new : World L V G H) (log_front front : List ℕ) (store : CheckpointedStore) (later : State) : Type 0 where
    pub left : ℕ → List ℕ
    pub works : List RecoveryEvent
    pub after : CheckpointedStore
    pub work : WorksOn store works after
    pub at : IsAt new log_front front left later after

  -- At each moment on the way a crash leaves of the log a prefix of the list as it was before, with all that was durable then, and of the volume pages
  -- that the store may lose power with.
  pub record LeavesAtAnyMoment (old new : World L V G H) : Type 0 where
    pub log : (log_front : List ℕ) → SurvivesCrashes old log_front → LeavesOnly (history_in old) (history_in new) (IsLeftOfLog old log_front)
    pub volume : (log_front front : List ℕ) (disk : ℕ → List ℕ) (s : State) (store : CheckpointedStore) → IsAt old log_front front disk s store
        → LeavesOnly (volume_history_in old) (volume_history_in new) (ShowsLeft (geometry_in old) front store.store)
    -- one device at most was touched
    pub one : (history_in new ≡ history_in old) ⊎ (volume_history_in new ≡ volume_history_in old)

  -- ---- an event

  -- from this state and store by a step of the manager over plain data; a step of the flush does no other work than to write pages back
  pub record Comes (old : World L V G H) (e : Event) (step : Step) (new : World L V G H) (log_front front : List ℕ) (s : State) (store : CheckpointedStore) : Type 0 where
    pub beside : IsOfCheckpoint e → ⊥
    pub later : State
    pub moves : EventStep (geometry_in old) s e step later
    pub comes : WorldComesTo new log_front front store later
    pub flushes : e ≡ event.FlushStep → AreFlushes comes.works

  -- The front of the log behind a step: as it was, or with the next anchor in the slot of the older one, once that has moved.
  abbrev pub IsFrontBehind : World L V G H → Step → World L V G H → List ℕ → List ℕ → Type 0
  IsFrontBehind old step new front behind =
      ((anchors_in new ≡ anchors_in old) × (behind ≡ front)) ⊎ ((step ≡ Done Moved) × (behind ≡ moved (anchors_in old) (anchor_in new) front))

  -- .. by a step of a checkpoint
  pub record ComesByCheckpoint (old : World L V G H) (step : Step) (new : World L V G H) (log_front front : List ℕ) (s : State) (store : CheckpointedStore) : Type 0 where
    pub last : CheckpointedState
    pub moves : CheckpointMoves (with_store s store) step last
    pub front_behind : List ℕ
    pub is_front : IsFrontBehind old step new log_front front_behind
    pub left : ℕ → List ℕ
    pub at : IsAt new front_behind front left last.state last.store

  abbrev pub EventComes : World L V G H → Event → Step → World L V G H → List ℕ → List ℕ → State → CheckpointedStore → Type 0
  EventComes old e step new log_front front s store = Comes old e step new log_front front s store ⊎ (IsOfCheckpoint e × ComesByCheckpoint old step new log_front front s store)

  -- What an event moves: from whatever safe state and store the world is at it comes to others; a step of a checkpoint from those over which it may go on.
  pub record EventMovesWorld (old : World L V G H) (e : Event) (step : Step) (new : World L V G H) : Type 0 where
    pub geometry : geometry_in new ≡ geometry_in old
    pub state : (log_front front : List ℕ) (disk : ℕ → List ℕ) (s : State) (store : CheckpointedStore) → IsAt old log_front front disk s store → IsSafe (geometry_in old) s
        → (IsOfCheckpoint e → MayCheckpoint (stream_bytes_in old) (with_store s store)) → EventComes old e step new log_front front s store
    pub any_moment : LeavesAtAnyMoment old new

  -- the world is kept behind some front, and the log has room for all of its list and the longest frame: then the next frame has its room
  pub record HasForceRoom (w : World L V G H) : Type 0 where
    pub log_front : List ℕ
    pub kept : SurvivesCrashes w log_front
    pub room : cost_of_log (list_in w) + LONGEST_FRAME ≤ stream_bytes_in w

  -- No frame was under way, and one is now: it has the longest list of the records not yet durable that one frame holds, the last of this number.
  pub record HasStaged (old new : World L V G H) (n : ℕ) : Type 0 where
    pub none_before : old.log.staged ≡ None
    pub longest : IsLongest (unforced_in old) (n - durable_in old)
    pub under_way : IsSomeAnd new.log.staged (λ frame. frame.count ≡ n - durable_in old)
    pub on_device : (front : List ℕ) → SurvivesCrashes old front
        → IsStagedFrom (anchor_in old).tail (anchor_in old).tail_place new.log front (take (n - durable_in old) (unforced_in old))

  -- The frame that was under way is durable now, and no other: its last record has this number.
  pub record HasForced (old new : World L V G H) (n : ℕ) : Type 0 where
    pub frame : IsSomeAnd old.log.staged (λ frame. n ≡ durable_in old + frame.count)
    pub none_left : new.log.staged ≡ None

  -- The anchor was moved to the checkpoint of which the Anchor record is durable. What is kept begins now with the frame that holds the record of its cut point: all
  -- before that is let go, and no more.
  pub record HasMoved (old new : World L V G H) : Type 0 where
    pub next : IsNextIn old (anchor_in new)
    pub cut : (groups : List (List LogRecord)) → HoldsFrom (anchor_in old).tail (anchor_in old).tail_place old.log groups
        → IsCutTo (anchor_in old).tail (anchor_in old).tail_place groups next.named.mark.tail new.log

  -- A step of the flush: pages with durable numbers were written, the first of the volume that are due, and the answer counts them; or none is due, and
  -- nothing has changed. What is clean is on the volume as long as it has not failed.
  pub record HasFlushed (old : World L V G H) (step : Step) (new : World L V G H) : Type 0 where
    pub answers : FlushAnswers old.core step new.core
    pub written : (front : List ℕ) (disk : ℕ → List ℕ) → PoolHolds (pool_of (cores.heap_of old.core)) front disk
        → MatchResult (fault_at step) (λ _. WroteBack (cores.heap_of old.core) (cores.heap_of new.core) (durable_in old) front disk)
        (λ f. (f ≡ Device) ⊎ WroteBack (cores.heap_of old.core) (cores.heap_of new.core) (durable_in old) front disk)

  -- One event: what it moves, what a step of a force or of the flush has done, when it may come to nothing, and who tells of a failure.
  pub record Steps (old : World L V G H) (e : Event) (step : Step) (new : World L V G H) : Type 0 where
    pub moves : EventMovesWorld old e step new
    -- a call, a resume, a wait taken back, an ask, a cut of the trail and a step of the flush make no call of the log device, and a step of a force or of a checkpoint none of the volume
    pub still : IsOfPages e → new.log.device ≡ old.log.device
    pub volume : IsOfForce e ⊎ IsOfCheckpoint e → cores.heap_of new.core ≡ cores.heap_of old.core
    -- a step of a checkpoint calls the log device at the move of the anchor alone, and no other event moves it
    pub unmoved : IsOfCheckpoint e → (new.log ≡ old.log) ⊎ ((next : Anchor) × IsNextIn old next)
    pub anchors : (anchors_in new ≡ anchors_in old) ⊎ (IsOfCheckpoint e × (step ≡ Done Moved))
    pub moved : IsOfCheckpoint e → step ≡ Done Moved → HasMoved old new
    pub same : SameVolume old.core new.core
    pub staged : (n : ℕ) → e ≡ event.ForceStage → step ≡ Done (Staged n) → HasStaged old new n
    pub forced : (n : ℕ) → e ≡ event.ForceOpen → step ≡ Done (Forced n) → HasForced old new n
    -- nothing is staged only if every record is durable or a frame is under way, and no gate is opened only if none is
    pub idle : e ≡ event.ForceStage → step ≡ Nothing → IsIdle old
    pub shut : e ≡ event.ForceOpen → step ≡ Nothing → old.log.staged ≡ None
    -- .. and whatever comes to nothing has changed nothing; so has a resume of a session of which no call waits
    pub quiet : IsNoCall e → step ≡ Nothing → IsUnchanged old new
    pub none : (session : ℕ) → e ≡ event.Resume session → NoneWaits old.core session → (step ≡ Nothing) × IsUnchanged old new
    -- an ask is answered whatever has failed, and changes nothing
    pub asked : (ticket : ℕ) → e ≡ event.Ask ticket → (answer : Bool) × (step ≡ Done (IsDurable answer)) × ((answer ≡ true) ↔ (ticket ≤ durable_in old)) × IsUnchanged old new
    -- the trail may be cut just while no transaction is under way, and that changes nothing
    pub cut : e ≡ event.CutTrail → AnswersCut old.core step × IsUnchanged old new
    pub full : e ≡ event.ForceStage → step ≡ Refused LogFull → ¬ HasForceRoom old
    pub flushed : e ≡ event.FlushStep → HasFlushed old step new
    -- a checkpoint begins just where the log has room for it
    pub full_begin : IsOfCheckpoint e → step ≡ Refused LogFull → ForCheckpoint old (IsFullIn old)
    pub roomy_begin : (n : ℕ) → IsOfCheckpoint e → step ≡ Done (Begun n) → ForCheckpoint old (IsRoomyIn old)
    -- a checkpoint that has begun takes no memory
    pub no_memory : IsOfCheckpoint e → old.stage ≢ stage.Resting → step ≢ Refused Memory
    -- nor does a step of a force
    pub force_no_memory : IsOfForce e → step ≢ Refused Memory
    pub report : report_in new ≡ report_in old
    -- `Damaged` names a page that the event may read and that has no text; `NeedForce` comes if no page may leave its frame, as the event begins, and of a
    -- rollback as it has left the pages
    pub damaged : Earns old.core (ReadBy old.core e) (fault_at step)
    pub unforced : NeedsForceIn old.core (force_needed_at e old.core new.core) (fault_at step)
    pub cause : HasCauseOfPair (fault_at step) (G.faults old.log.device) (G.faults new.log.device) (cores.faults_of old.core) (cores.faults_of new.core)

  -- ---- between two events

  -- The same but for what a device is told that changes none of its bytes, as the fuse of one that is made to fail, for reads of the log device, and for pages
  -- that were read and others that were written back for them.
  pub record IsLike (old new : World L V G H) : Type 0 where
    pub geometry : geometry_in new ≡ geometry_in old
    pub state : (log_front front : List ℕ) (disk : ℕ → List ℕ) (s : State) (store : CheckpointedStore) → IsAt old log_front front disk s store → IsSafe (geometry_in old) s
        → WorldComesTo new log_front front store s
    pub any_moment : LeavesAtAnyMoment old new
    pub list : list_in new ≡ list_in old
    pub durable : durable_in new ≡ durable_in old
    pub failed : failed_in new ≡ failed_in old
    pub history : history_in new ≡ history_in old
    pub staged : new.log.staged ≡ old.log.staged
    pub anchors : anchors_in new ≡ anchors_in old
    pub stage : new.stage ≡ old.stage
    pub report : report_in new ≡ report_in old
    pub same : SameVolume old.core new.core
    pub volume_faults : cores.faults_of new.core ≡ cores.faults_of old.core
    pub kept : (front : List ℕ) → SurvivesCrashes old front → SurvivesCrashes new front

  -- A call of the volume has failed: every later call is refused.
  pub record HasFailedToRead (old new : World L V G H) : Type 0 where
    pub geometry : geometry_in new ≡ geometry_in old
    pub state : (log_front front : List ℕ) (disk : ℕ → List ℕ) (s : State) (store : CheckpointedStore) → IsAt old log_front front disk s store → IsSafe (geometry_in old) s
        → WorldComesTo new log_front front store (with_failure s)
    pub any_moment : LeavesAtAnyMoment old new
    pub list : list_in new ≡ list_in old
    pub durable : durable_in new ≡ durable_in old
    pub running : failed_in old ≡ false
    pub failed : IsTrue (failed_in new)
    pub history : history_in new ≡ history_in old
    pub staged : new.log.staged ≡ old.log.staged
    pub anchors : anchors_in new ≡ anchors_in old
    pub stage : new.stage ≡ old.stage
    pub report : report_in new ≡ report_in old
    pub faults : G.faults new.log.device ≡ G.faults old.log.device
    pub same : SameVolume old.core new.core
    pub kept : (front : List ℕ) → SurvivesCrashes old front → SurvivesCrashes new front

-- Between two events fuses may be set and stores dumped. Each read of the volume that failed is a failure of the manager over plain data.
abbrev pub Between : {L V : Type 0} {G : Ghosts L} {H : Ghosts V} → World L V G H → List PlainMove → World L V G H → Type 0
Between old [] new = IsLike old new
Between {L = L} {V = V} {G = G} {H = H} old (OfManager HasFailed ∷ failures) new = (mid : World L V G H) × HasFailedToRead old mid × Between mid failures new
Between old (OfManager (Called session c step) ∷ failures) new = ⊥
Between old (OfManager (Resumed session step) ∷ failures) new = ⊥
Between old (OfManager (calls.GaveUp session step) ∷ failures) new = ⊥
Between old (OfManager (calls.Forced n) ∷ failures) new = ⊥
Between old (OfManager (calls.TicketAsked ticket answer) ∷ failures) new = ⊥
Between old (OfCheckpoint step ∷ failures) new = ⊥

-- The events, one step each, from a world to another. As moves over plain data they are these: each event's own, and before them what
-- failed between it and the event before.
abbrev pub Runs : {L V : Type 0} {G : Ghosts L} {H : Ghosts V} → World L V G H → List Event → List Step → List PlainMove → World L V G H → Type 0
Runs old [] [] moves new = Between old moves new
Runs {L = L} {V = V} {G = G} {H = H} old (e ∷ es) (step ∷ steps) moves new =
    (start : World L V G H) × (mid : World L V G H) × (failures : List PlainMove) × (later : List PlainMove)
    × Between old failures start × Steps start e step mid × Runs mid es steps later new × (moves ≡ failures ++ (moves_by e step ++ later))
Runs old [] (step ∷ steps) moves new = ⊥
Runs old (e ∷ es) [] moves new = ⊥

-- ---- what an open answers

module _ {L V : Type 0} {G : Ghosts L} {H : Ghosts V} where
  -- the log device, whether a world stands on it or it is handed back
  abbrev pub log_in : Result (World L V G H) (Fault × L × V) → L
  log_in (Ok w) = w.log.device
  log_in (Err refused) = refused.1

  -- so the volume
  abbrev pub volume_in : Result (World L V G H) (Fault × L × V) → V
  volume_in (Ok w) = cores.volume_of w.core
  volume_in (Err refused) = refused.2

  -- the answer with no device at the fault
  abbrev pub fault_in : Result (World L V G H) (Fault × L × V) → Result (World L V G H) Fault
  fault_in (Ok w) = Ok w
  fault_in (Err refused) = Err refused.0
