-- What each event of a checkpointed store keeps, and what a crash leaves by it for the next open.
use Rattle.std.specs.Prelude.{◌≡◌, ◌<◌, ◌≤◌, ◌⊎◌, ◌-◌, ℕ, List, None, Some, IfSome, IsSome, IsSomeAnd, length, take, drop, slice_get}
use Rattle.std.specs.List.{AllByRecursion}
use Rattle.shore_types.specs.declared.ids.PageId.{PageId}
use Rattle.shore_model.specs.declared.log_records.LogRecord.{LogRecord}
use Rattle.shore_model.specs.declared.log_records.Payload.TheVariants.{CheckpointBegin}
use Rattle.shore_model.specs.Logs.{IsAsAtBegin, Lawful}
use Rattle.laws_lives.specs.DirtyPages.{HasAllUpTo, TableCovers}
use Rattle.laws_lives.specs.Pages.{LoggedPages, PagesLackNone}
use Rattle.laws_lives.specs.Recovery.{IsRecoverable}
use Rattle.laws_checkpoints.specs.KeptLogs.{MayBeCut}
use Rattle.laws_checkpoints.specs.Checkpoints.{Anchored, Checkpoint, IsAnchoredRight, TableIsRight, cut_of, cut_point, end_among, not_anchored, redo_behind}
use Rattle.laws_checkpoints.specs.CheckpointedStores.{AnchorLogged, BeginLogged, CheckpointedStore, CheckpointStage, EndLogged, NoCheckpoint}
use Rattle.laws_checkpoints.specs.RecoveryNumbers.{ChangesPage, EndsListChanges, ListsChanges}

-- Recovery numbers are right: a page that is not dirty is on the volume as in place; of a dirty one the volume has all records before its recovery
-- number, which is a record's that changes the page, and is kept.
pub record AreRecoveryNumbers (s : CheckpointedStore) : Type 0 where
  pub clean : (p : PageId) → s.recovery p ≡ 0 → s.store.volume p ≡ s.store.in_place p
  pub dirty : (p : PageId) → 0 < s.recovery p → HasAllUpTo s.store.log p (s.store.volume p) (s.recovery p - 1)
  pub changed : (p : PageId) → 0 < s.recovery p → ChangesPage s.store.log (s.recovery p) p
  pub kept : (p : PageId) → 0 < s.recovery p → s.anchored.tail ≤ s.recovery p

-- A checkpoint is under way: its tables are as at its begin, that of pages is right, and the log may be cut at its cut point some time.
pub record IsPendingCheckpoint (s : CheckpointedStore) (c : Checkpoint) : Type 0 where
  pub as_at_begin : IsAsAtBegin s.store.log c.begin c.next c.txns
  pub on_volume : TableIsRight s.store.log c.begin c.dirty s.store.volume
  pub now : TableIsRight s.store.log c.begin c.dirty s.store.in_place
  pub lists : ListsChanges s.store.log c.begin c.dirty
  pub recoveries : (p : PageId) → 0 < s.recovery p → cut_point c ≤ s.recovery p
  pub no_lower : s.anchored.tail ≤ cut_point c
  pub redone_past : c.begin ≤ s.store.redone

-- its End is among the first n records
abbrev pub IsEndedBy : CheckpointedStore → Checkpoint → ℕ → Type 0
IsEndedBy s c n = (n ≤ length s.store.log) × (end_among c.begin (take n s.store.log) ≡ Some c)

abbrev pub IsStageRight : CheckpointedStore → CheckpointStage → Type 0
IsStageRight s NoCheckpoint = Unit {0}
IsStageRight s (BeginLogged c) = IsPendingCheckpoint s c × (end_among c.begin s.store.log ≡ None)
IsStageRight s (EndLogged c n) = IsPendingCheckpoint s c × IsEndedBy s c n
IsStageRight s (AnchorLogged c n) = IsPendingCheckpoint s c × IsEndedBy s c n

-- the invariant
pub record IsInOrder (s : CheckpointedStore) : Type 0 where
  pub recoverable : IsRecoverable s.store
  pub lawful : Lawful s.store.log
  -- a record that is redone would not be done again
  pub has_redone : (p : PageId) → HasAllUpTo s.store.log p (s.store.in_place p) s.store.redone
  pub recoveries : AreRecoveryNumbers s
  pub ends : EndsListChanges s.store.log
  pub anchor : IsAnchoredRight s.store.log s.store.durable s.store.volume s.store.in_place s.anchored
  pub stage_right : IsStageRight s s.stage
  -- redo goes on behind the cut
  pub redone : cut_of s.anchored ≤ s.store.redone

-- ---- what a crash leaves

-- the anchored checkpoint's begin and its End are among what is kept
pub record IsCheckpointKept (a : Anchored) (kept : List LogRecord) : Type 0 where
  pub inside : a.tail ≤ a.checkpoint
  pub begins : IsSomeAnd (slice_get kept (a.checkpoint - a.tail)) (λ r. r.payload ≡ CheckpointBegin)
  pub ends : IsSome (end_among a.checkpoint kept)

-- For the next open, which reads the log from the anchor's tail on: it may be cut there; the anchored checkpoint is found among what is kept, and
-- its table is right; and redo may begin where that says, behind the cut.
pub record IsLeftByCrash (a : Anchored) (log : List LogRecord) (left : LoggedPages) : Type 0 where
  pub may : MayBeCut log left (cut_of a)
  pub kept : (a ≡ not_anchored) ⊎ IsCheckpointKept a (drop (cut_of a) log)
  pub found : end_among a.checkpoint (drop (cut_of a) log) ≡ end_among a.checkpoint log
  pub right : IfSome (end_among a.checkpoint log) (λ c. TableIsRight log c.begin c.dirty left × TableCovers log c.begin c.dirty left)
  pub behind : cut_of a ≤ redo_behind (end_among a.checkpoint log)
  pub redo : PagesLackNone log (redo_behind (end_among a.checkpoint log)) left
  -- a number above those of the kept records' transactions, and not below the End's, is above all
  pub next : (n : ℕ) → AllByRecursion (λ r. r.txn < n) (drop (cut_of a) log) → IfSome (end_among a.checkpoint log) (λ c. c.next ≤ n) → AllByRecursion (λ r. r.txn < n) log
  -- each End lists pages that records from before its begin change
  pub ends : EndsListChanges log
