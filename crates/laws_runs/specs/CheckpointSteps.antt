-- A manager with its store and its checkpoints: what a step of a checkpoint comes to, and the events of a manager with such steps between them. It is told
-- what is durable; a step makes no call of a device but for the move of the anchor.
use Rattle.std.specs.Prelude.{◌≡◌, ◌⊎◌, ◌≤◌, ◌<◌, ◌+◌, ◌-◌, ◌++◌, ℕ, List, [], ◌∷◌, IsTrue, false, length, take, drop, unwrap_or}
use Rattle.shore_types.specs.declared.faults.Fault.{Fault}
use Rattle.shore_types.specs.declared.faults.Fault.TheVariants as fault
use Rattle.shore_types.specs.declared.layout.Geometry.{Geometry}
use Rattle.shore_model.specs.declared.calls.Answer.{Answer}
use Rattle.shore_model.specs.declared.calls.Answer.TheVariants.{Aborted, Anchored, AreInDoubt, Began, Begun, Committed, Cut, Deleted, Ended, Flushed, Forced, Got, Inserted, IsDurable, Locked, Moved, Prepared, Resolved, Saved, Scanned, Staged, Updated, WentBack}
use Rattle.shore_model.specs.declared.histories.Entry.{Entry}
use Rattle.shore_model.specs.declared.log_records.LogRecord.{LogRecord}
use Rattle.shore_model.specs.declared.log_records.Payload.TheVariants as payload
use Rattle.shore_model.specs.declared.step.Step.{Step}
use Rattle.shore_model.specs.declared.step.Step.TheVariants.{Done, Nothing, Refused, Waits}
use Rattle.shore_logrec.specs.Text.{CheckpointFits}
use Rattle.laws_lives.specs.Recovery.{LeadsTo, RecoveryEvent, RecoveryState, after_append}
use Rattle.laws_calls.specs.StateChanges.{with_failure}
use Rattle.laws_calls.specs.States.{State, cost_of_log, log_room, next_number}
use Rattle.laws_checkpoints.specs.Checkpoints as checkpoints
use Rattle.laws_checkpoints.specs.Checkpoints.{Checkpoint, cut_of, cut_point, end_payload, of_checkpoint}
use Rattle.laws_checkpoints.specs.CheckpointedStores.{AnchorLogged, AreTablesNow, BeginLogged, CheckpointStage, CheckpointedStore, EndLogged, NoCheckpoint, awaited_by}
use Rattle.laws_checkpoints.specs.RecoveryNumbers.{recovery_after}
use Rattle.laws_checkpoints.specs.RingRooms.{ANCHOR_COST, AdmitsCheckpoint, RingRoom, checkpoint_cost, end_cost}
use Rattle.laws_runs.specs.StoredRuns.{Manage, StoredEvent, StoredState, StoredSteps, Tend, entries_made}

pub record CheckpointedState : Type 0 where
  pub state : State
  pub store : CheckpointedStore

-- the manager with its store alone
abbrev pub stored_in : CheckpointedState → StoredState
stored_in m = record { state = m.state; store = m.store.store }

-- ---- room

-- What all records of a log may cost, if so many first ones are cut off from a stream of so many bytes: those cut off take no room of it.
abbrev pub log_limit : ℕ → ℕ → List LogRecord → ℕ
log_limit ring_bytes cut log = ring_bytes + cost_of_log (take cut log)

-- what the checkpoint under way still has to log
abbrev pub owed_to : CheckpointStage → ℕ
owed_to NoCheckpoint = 0
owed_to (BeginLogged c) = end_cost (length c.txns) (length c.dirty) + ANCHOR_COST
owed_to (EndLogged c n) = ANCHOR_COST
owed_to (AnchorLogged c n) = 0

abbrev pub ring_room : CheckpointedState → RingRoom
ring_room m = record { room = log_room m.state; to_log = owed_to m.store.stage }

-- what the kept records before this number cost: so much is freed once the anchor's tail is there
abbrev pub freed_to : CheckpointedState → ℕ → ℕ
freed_to m tail = cost_of_log (drop (cut_of m.store.anchored) (take (tail - 1) m.state.log))

-- ---- the begin

-- A checkpoint that begins now: its tables are as they are now, each entry once and in order, so that its End has a text, and its next number is the manager's. The frames that lie wholly below its cut point end
-- before record `kept_from`.
pub record IsCheckpointNow (m : CheckpointedState) (c : Checkpoint) (kept_from : ℕ) : Type 0 where
  pub begin : c.begin ≡ next_number m.state
  pub next : c.next ≡ m.state.sessions.next_txn
  pub tables : AreTablesNow m.store c.next c.txns c.dirty
  pub fits : CheckpointFits c.begin c.next c.txns c.dirty
  pub no_lower : m.store.anchored.tail ≤ kept_from
  pub forced : kept_from ≤ m.state.durable + 1
  pub no_higher : kept_from ≤ cut_point c

-- it is not LogFull
abbrev pub IsAdmitted : CheckpointedState → Checkpoint → ℕ → Type 0
IsAdmitted m c kept_from = AdmitsCheckpoint (log_room m.state) (checkpoint_cost (length c.txns) (length c.dirty)) (freed_to m kept_from)

-- ---- a step

-- the log goes on by a record of the checkpoint, of which the sessions know nothing
abbrev pub with_record : LogRecord → State → State
with_record r s = record s { log = s.log ++ r ∷ [] }

abbrev pub noted : CheckpointedState → LogRecord → CheckpointStage → CheckpointedState
noted m r stage = record { state = with_record r m.state; store = record m.store { store = after_append m.store.store r; stage = stage } }

-- the anchor has moved, and what is cut off is free
abbrev pub moved_to : CheckpointedState → checkpoints.Anchored → CheckpointedState
moved_to m a = record {
  state = record m.state { stream_bytes = m.state.stream_bytes + freed_to m a.tail };
  store = record m.store { stage = NoCheckpoint; anchored = a };
}

-- the number that the next step needs durable, 0 if none
abbrev pub awaited : CheckpointStage → ℕ
awaited stage = unwrap_or (awaited_by stage) 0

-- The Anchor record is durable, and the anchor is such as its move makes it: it names the begin, and its tail is no higher than the cut point.
abbrev pub IsNextAnchor : CheckpointedStore → checkpoints.Anchored → Type 0
IsNextAnchor s a =
    (c : Checkpoint) × (n : ℕ) × (s.stage ≡ AnchorLogged c n) × (n ≤ s.store.durable) × (a.checkpoint ≡ c.begin) × (s.anchored.tail ≤ a.tail) × (a.tail ≤ cut_point c)

-- what the four steps of a checkpoint are answered
abbrev pub CheckpointAnswers : CheckpointedState → Answer → CheckpointedState → Type 0
CheckpointAnswers m (Begun n) new =
    (c : Checkpoint) × (kept_from : ℕ) × (m.store.stage ≡ NoCheckpoint) × IsCheckpointNow m c kept_from × IsAdmitted m c kept_from × (n ≡ c.begin)
    × (new ≡ noted m (of_checkpoint payload.CheckpointBegin) (BeginLogged c))
CheckpointAnswers m (Ended n) new =
    (c : Checkpoint) × (m.store.stage ≡ BeginLogged c) × (n ≡ next_number m.state) × (new ≡ noted m (of_checkpoint (end_payload c)) (EndLogged c n))
CheckpointAnswers m (Anchored checkpoint tail) new =
    (c : Checkpoint) × (n : ℕ) × (m.store.stage ≡ EndLogged c n) × (n ≤ m.state.durable) × (checkpoint ≡ c.begin) × (tail ≡ cut_point c)
    × (new ≡ noted m (of_checkpoint (payload.Anchor checkpoint tail)) (AnchorLogged c (next_number m.state)))
CheckpointAnswers m Moved new = (a : checkpoints.Anchored) × IsNextAnchor m.store a × (new ≡ moved_to m a)
CheckpointAnswers m (Began t) new = ⊥
CheckpointAnswers m (Got bytes) new = ⊥
CheckpointAnswers m (Inserted id) new = ⊥
CheckpointAnswers m Updated new = ⊥
CheckpointAnswers m Deleted new = ⊥
CheckpointAnswers m (Scanned pairs) new = ⊥
CheckpointAnswers m Locked new = ⊥
CheckpointAnswers m (Saved n) new = ⊥
CheckpointAnswers m WentBack new = ⊥
CheckpointAnswers m (Committed ticket) new = ⊥
CheckpointAnswers m Aborted new = ⊥
CheckpointAnswers m Prepared new = ⊥
CheckpointAnswers m Resolved new = ⊥
CheckpointAnswers m (AreInDoubt pairs) new = ⊥
CheckpointAnswers m (Staged n) new = ⊥
CheckpointAnswers m (Forced n) new = ⊥
CheckpointAnswers m (Flushed n) new = ⊥
CheckpointAnswers m Cut new = ⊥
CheckpointAnswers m (IsDurable answer) new = ⊥

-- A step is refused: memory is short, where it was not waited for a force; the log is full for a begin; or the device fails in the move of the anchor.
abbrev pub CheckpointRefused : CheckpointedState → Fault → CheckpointedState → Type 0
CheckpointRefused m f new =
    ((f ≡ fault.Memory) × (awaited m.store.stage ≤ m.state.durable) × (new ≡ m))
    ⊎ ((f ≡ fault.LogFull) × (m.store.stage ≡ NoCheckpoint) × ((c : Checkpoint) × (kept_from : ℕ) × IsCheckpointNow m c kept_from × ¬ IsAdmitted m c kept_from) × (new ≡ m))
    ⊎ ((f ≡ fault.Device) × ((a : checkpoints.Anchored) × IsNextAnchor m.store a) × (new ≡ record m { state = with_failure m.state }))

-- A step of a checkpoint: nothing is done only while what it needs is not durable, and nothing once a device has failed.
abbrev pub CheckpointMoves : CheckpointedState → Step → CheckpointedState → Type 0
CheckpointMoves m (Done answer) new = (m.state.failed ≡ false) × CheckpointAnswers m answer new
CheckpointMoves m Nothing new = (m.state.failed ≡ false) × (m.state.durable < awaited m.store.stage) × (new ≡ m)
CheckpointMoves m (Refused f) new = (IsTrue m.state.failed × (f ≡ fault.Failed) × (new ≡ m)) ⊎ ((m.state.failed ≡ false) × CheckpointRefused m f new)
CheckpointMoves m (Waits wait) new = ⊥

-- ---- events

-- `Goes`: an event of the manager with its store, or work between two; `Checkpoints`: a step of a checkpoint, with what it came to
pub data CheckpointedMove : Type 0 where
  Goes : StoredEvent → CheckpointedMove
  Checkpoints : Step → CheckpointedMove

abbrev pub works_of : StoredEvent → List RecoveryEvent
works_of (Manage e works) = works
works_of (Tend works) = works

-- the work on the store, and what it makes of the recovery numbers
abbrev pub StoreWorks : CheckpointedStore → List RecoveryEvent → CheckpointedStore → Type 0
StoreWorks s [] last = last ≡ s
StoreWorks s (e ∷ works) last =
    (next : RecoveryState) × LeadsTo s.store e next × StoreWorks (record s { store = next; recovery = recovery_after s.store e s.recovery }) works last

abbrev pub CheckpointedSteps : Geometry → CheckpointedState → CheckpointedMove → CheckpointedState → Type 0
CheckpointedSteps g m (Goes e) new = StoredSteps g (stored_in m) e (stored_in new) × StoreWorks m.store (works_of e) new.store
CheckpointedSteps g m (Checkpoints step) new = CheckpointMoves m step new

-- a step of a checkpoint is no call of a session
abbrev pub entries_of_move : CheckpointedState → CheckpointedMove → CheckpointedState → List Entry
entries_of_move m (Goes e) new = entries_made (stored_in m) e (stored_in new)
entries_of_move m (Checkpoints step) new = []

abbrev pub CheckpointedMoves : Geometry → CheckpointedState → List CheckpointedMove → CheckpointedState → List Entry → Type 0
CheckpointedMoves g m [] last made = (last ≡ m) × (made ≡ [])
CheckpointedMoves g m (e ∷ events) last made = (new : CheckpointedState) × (later : List Entry)
    × CheckpointedSteps g m e new × CheckpointedMoves g new events last later × (made ≡ entries_of_move m e new ++ later)
