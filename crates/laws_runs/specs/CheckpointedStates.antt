-- Managers with checkpoints under way: what holds of one, what a loss of power leaves of it, and what an open makes of that.
use Rattle.std.specs.Prelude.{◌≡◌, ◌⊎◌, ◌≤◌, ◌<◌, ℕ, List, IfSome, drop, length, map}
use Rattle.std.specs.FinMap.{get}
use Rattle.std.specs.List.{AllByRecursion}
use Rattle.shore_types.specs.declared.ids.PageId.{PageId}
use Rattle.shore_types.specs.Versions.{slot_limit}
use Rattle.shore_types.specs.declared.ids.Rid.{Rid}
use Rattle.shore_types.specs.declared.layout.Geometry.{Geometry}
use Rattle.shore_types.specs.declared.layout.TheConstants.{LAST_TXN, MAX_LOG_BYTES}
use Rattle.shore_model.specs.declared.histories.Entry.{Entry}
use Rattle.shore_model.specs.declared.histories.Opening.{Opening}
use Rattle.shore_model.specs.declared.log_records.LogRecord.{LogRecord}
use Rattle.shore_model.specs.Logs.{image_of_record}
use Rattle.laws_lives.specs.Doubts.{doubts_in, pair_logged, undo_in}
use Rattle.laws_lives.specs.Pages.{LoggedPages}
use Rattle.laws_lives.specs.Sessions.{SessionTxn, pairs_of, txns_of}
use Rattle.laws_lives.specs.Views.{IsAmong}
use Rattle.laws_calls.specs.States.{State}
use Rattle.laws_checkpoints.specs.Checkpoints.{Anchored, cut_of, end_among, redo_behind}
use Rattle.laws_checkpoints.specs.CheckpointedStores.{AnchorLogged, BeginLogged, CheckpointStage, CheckpointedStore, EndLogged, NoCheckpoint}
use Rattle.laws_checkpoints.specs.RingRooms.{HasRingRoom}
use Rattle.laws_checkpoints.specs.StoresInOrder.{IsInOrder}
use Rattle.laws_runs.specs.CheckpointSteps.{CheckpointedState, IsNextAnchor, log_limit, ring_room, stored_in}
use Rattle.laws_runs.specs.RoomyStates.{HasLocksInBounds}
use Rattle.laws_runs.specs.SlotCounts.{slot_count}
use Rattle.laws_runs.specs.SoundStores.{IsUnderWay, MayBeOpened}

-- the next number that a checkpoint will log is one that an open may go on from
abbrev pub NamesNextInBounds : CheckpointStage → Type 0
NamesNextInBounds NoCheckpoint = Unit {0}
NamesNextInBounds (BeginLogged c) = c.next ≤ LAST_TXN
NamesNextInBounds (EndLogged c n) = Unit {0}
NamesNextInBounds (AnchorLogged c n) = Unit {0}

-- a checkpoint under way began behind the anchored one
abbrev pub BeganBehind : ℕ → CheckpointStage → Type 0
BeganBehind checkpoint NoCheckpoint = Unit {0}
BeganBehind checkpoint (BeginLogged c) = checkpoint < c.begin
BeganBehind checkpoint (EndLogged c n) = checkpoint < c.begin
BeganBehind checkpoint (AnchorLogged c n) = checkpoint < c.begin

-- A manager under way with its checkpoints, on a stream of so many bytes: it is under way over its store, which is in order. What is owed to the checkpoint
-- under way has its room, and the log may hold what the stream has and what is cut off.
pub record IsAtCheckpoints (g : Geometry) (ring_bytes : ℕ) (o : Opening) (found : List LogRecord) (es : List Entry) (m : CheckpointedState) : Type 0 where
  pub under_way : IsUnderWay g m.state.stream_bytes o found es (stored_in m)
  pub in_order : IsInOrder m.store
  pub room : HasRingRoom (ring_room m)
  pub limit : m.state.stream_bytes ≡ log_limit ring_bytes (cut_of m.store.anchored) m.state.log
  pub short : ring_bytes ≤ MAX_LOG_BYTES
  pub next : NamesNextInBounds m.store.stage
  pub later : BeganBehind m.store.anchored.checkpoint m.store.stage

-- ---- what is left, and what an open makes of it

-- A loss of power leaves this anchor: the one that counts, or the one that a move makes which may be under way or has failed.
abbrev pub MayBeAnchored : CheckpointedStore → Anchored → Type 0
MayBeAnchored s a = (a ≡ s.anchored) ⊎ IsNextAnchor s a

-- the store that a restart begins with over such a log and pages, behind this anchor: redo begins where the anchored checkpoint says
abbrev pub found_behind : Anchored → List LogRecord → LoggedPages → CheckpointedStore
found_behind a rs pages = record {
  store = record { log = rs; durable = length rs; redone = redo_behind (end_among a.checkpoint rs); volume = pages; in_place = pages };
  recovery = λ p. 0;
  stage = NoCheckpoint;
  anchored = a;
}

-- What a restart may be handed of which the front is cut off behind this anchor: the whole log may be opened, over as much more as is cut off, and the store
-- is in order. So what is kept has the anchored checkpoint, and tells what the whole log does.
pub record MayBeOpenedBehind (g : Geometry) (ring_bytes : ℕ) (a : Anchored) (rs : List LogRecord) (pages : LoggedPages) : Type 0 where
  pub opened : MayBeOpened g (log_limit ring_bytes (cut_of a) rs) rs pages
  pub in_order : IsInOrder (found_behind a rs pages)
  pub short : ring_bytes ≤ MAX_LOG_BYTES

-- What an open makes of a log of which the front is cut off. The next transaction's number is the least above all of what is kept and not below that of
-- the anchored checkpoint; all else is as with no front cut off.
pub record IsOpenedBehind (g : Geometry) (stream_bytes : ℕ) (a : Anchored) (found : List LogRecord) (s : State) : Type 0 where
  pub slots : s.sessions.slots ≡ slot_limit g.version
  pub log : s.log ≡ found
  pub as_long : s.stream_bytes ≡ stream_bytes
  pub records : (id : Rid) → get s.sessions.records id ≡ image_of_record found id
  pub prepared : pairs_of s.sessions.prepared ≡ map pair_logged (doubts_in found)
  pub active : txns_of s.sessions.active ≡ map (λ d. d.txn) (doubts_in found)
  pub undo_lists : (t : SessionTxn) → IsAmong t s.sessions.active → t.undo ≡ undo_in found t.txn
  pub counts : (p : PageId) → s.counts p ≡ slot_count found p
  pub some : 0 < s.sessions.next_txn
  pub least : (n : ℕ) → 0 < n → AllByRecursion (λ r. r.txn < n) (drop (cut_of a) found) → IfSome (end_among a.checkpoint found) (λ c. c.next ≤ n) → s.sessions.next_txn ≤ n
  pub not_below : IfSome (end_among a.checkpoint found) (λ c. c.next ≤ s.sessions.next_txn)
  pub locks : HasLocksInBounds g s
