-- Fuzzy checkpoints in the life of a store: begin, End, Anchor record, move of the anchor, with any other events between them, and power lost at
-- any moment. No page is flushed for one.
use Rattle.std.specs.Prelude.{◌≡◌, ◌<◌, ◌≤◌, ◌+◌, ℕ, List, [], ◌∷◌, Option, None, Some, false, All, length, take}
use Rattle.shore_model.specs.declared.log_records.DirtyPage.{DirtyPage}
use Rattle.shore_model.specs.declared.log_records.LogTxn.{LogTxn}
use Rattle.shore_model.specs.declared.log_records.Payload.TheVariants.{CheckpointBegin, Anchor}
use Rattle.shore_model.specs.Logs.{IsTable, MayFollow, is_of_checkpoint}
use Rattle.laws_lives.specs.Pages.{LoggedPages, empty_page}
use Rattle.laws_lives.specs.Recovery.{AppendRecord, CrashMayLeave, FlushPage, ForceLog, LeadsTo, LosePower, RecoveryEvent, RecoveryState, RedoRecord, after_append, after_crash}
use Rattle.laws_checkpoints.specs.Checkpoints.{Anchored, Checkpoint, cut_point, end_among, end_payload, not_anchored, of_checkpoint, redo_behind}
use Rattle.laws_checkpoints.specs.RecoveryNumbers.{IsDirtyTableOf, RecoveryNumbers, recovery_after}

-- No checkpoint is under way; or one has begun, with the tables as they were then; or its End is logged, under this number; or its Anchor record is.
pub data CheckpointStage : Type 0 where
  NoCheckpoint : CheckpointStage
  BeginLogged : Checkpoint → CheckpointStage
  EndLogged : Checkpoint → ℕ → CheckpointStage
  AnchorLogged : Checkpoint → ℕ → CheckpointStage

-- the number of the record that has to be durable before the next step, if there is one
abbrev pub awaited_by : CheckpointStage → Option ℕ
awaited_by NoCheckpoint = None
awaited_by (BeginLogged c) = None
awaited_by (EndLogged c n) = Some n
awaited_by (AnchorLogged c n) = Some n

pub record CheckpointedStore : Type 0 where
  pub store : RecoveryState
  pub recovery : RecoveryNumbers
  pub stage : CheckpointStage
  pub anchored : Anchored

-- `StoreEvent` is any event of the store that is no checkpoint's and loses no power; `MoveAnchor tail`: the tail is the first number of the frame that
-- holds the cut point; `CrashStore n left`: n records survive, and these pages.
pub data CheckpointedEvent : Type 0 where
  StoreEvent : RecoveryEvent → CheckpointedEvent
  BeginCheckpoint : ℕ → List LogTxn → List DirtyPage → CheckpointedEvent
  EndCheckpoint : CheckpointedEvent
  NameCheckpoint : CheckpointedEvent
  MoveAnchor : ℕ → CheckpointedEvent
  CrashStore : ℕ → LoggedPages → CheckpointedEvent

-- a record that is appended may follow, and is no checkpoint's
abbrev pub IsBesideCheckpoints : RecoveryState → RecoveryEvent → Type 0
IsBesideCheckpoints s (AppendRecord r) = MayFollow s.log r × (is_of_checkpoint r.payload ≡ false)
IsBesideCheckpoints s RedoRecord = Unit {0}
IsBesideCheckpoints s (ForceLog n) = Unit {0}
IsBesideCheckpoints s (FlushPage p) = Unit {0}
IsBesideCheckpoints s (LosePower n left begin) = ⊥

-- a checkpoint that begins now, with these tables
abbrev pub begun_now : RecoveryState → ℕ → List LogTxn → List DirtyPage → Checkpoint
begun_now s next txns dirty = record { begin = length s.log + 1; next = next; txns = txns; dirty = dirty }

-- Tables as they are now: the transactions that have not ended, those in doubt among them, a number above all, and the dirty pages.
pub record AreTablesNow (s : CheckpointedStore) (next : ℕ) (txns : List LogTxn) (dirty : List DirtyPage) : Type 0 where
  pub txns_now : IsTable s.store.log txns
  pub above : All (λ r. r.txn < next) s.store.log
  pub dirty_now : IsDirtyTableOf s.recovery dirty

-- what the event may lead to; a checkpoint begins only where all is redone, so not in a restart
abbrev pub CheckpointedLeadsTo : CheckpointedStore → CheckpointedEvent → CheckpointedStore → Type 0
CheckpointedLeadsTo s (StoreEvent e) new = IsBesideCheckpoints s.store e × (next : RecoveryState) × LeadsTo s.store e next
    × (new ≡ record s { store = next; recovery = recovery_after s.store e s.recovery })
CheckpointedLeadsTo s (BeginCheckpoint next txns dirty) new = (s.stage ≡ NoCheckpoint) × (s.store.redone ≡ length s.store.log) × AreTablesNow s next txns dirty
    × (new ≡ record s { store = after_append s.store (of_checkpoint CheckpointBegin); stage = BeginLogged (begun_now s.store next txns dirty) })
CheckpointedLeadsTo s EndCheckpoint new = (c : Checkpoint) × (s.stage ≡ BeginLogged c) × (s.store.redone ≡ length s.store.log)
    × (new ≡ record s { store = after_append s.store (of_checkpoint (end_payload c)); stage = EndLogged c (length s.store.log + 1) })
CheckpointedLeadsTo s NameCheckpoint new = (c : Checkpoint) × (n : ℕ) × (s.stage ≡ EndLogged c n) × (n ≤ s.store.durable) × (s.store.redone ≡ length s.store.log)
    × (new ≡ record s { store = after_append s.store (of_checkpoint (Anchor c.begin (cut_point c))); stage = AnchorLogged c (length s.store.log + 1) })
CheckpointedLeadsTo s (MoveAnchor tail) new = (c : Checkpoint) × (n : ℕ) × (s.stage ≡ AnchorLogged c n) × (n ≤ s.store.durable) × (s.anchored.tail ≤ tail) × (tail ≤ cut_point c)
    × (new ≡ record s { stage = NoCheckpoint; anchored = record { checkpoint = c.begin; tail = tail } })
CheckpointedLeadsTo s (CrashStore n left) new = (s.store.durable ≤ n) × (n ≤ length s.store.log) × CrashMayLeave s.store left
    × (new ≡ record {
      store = after_crash s.store n left (redo_behind (end_among s.anchored.checkpoint (take n s.store.log)));
      recovery = λ p. 0;
      stage = NoCheckpoint;
      anchored = s.anchored;
    })

abbrev pub CheckpointedLeadTo : CheckpointedStore → List CheckpointedEvent → CheckpointedStore → Type 0
CheckpointedLeadTo s [] last = last ≡ s
CheckpointedLeadTo s (e ∷ events) last = (new : CheckpointedStore) × CheckpointedLeadsTo s e new × CheckpointedLeadTo new events last

-- a formatted pair
abbrev pub formatted_store : CheckpointedStore
formatted_store = record {
  store = record { log = []; durable = 0; redone = 0; volume = λ p. empty_page; in_place = λ p. empty_page };
  recovery = λ p. 0;
  stage = NoCheckpoint;
  anchored = not_anchored;
}
