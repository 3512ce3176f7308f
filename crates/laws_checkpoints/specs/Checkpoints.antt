-- A fuzzy checkpoint (ARIES): the tables that its End logs, the point up to which it lets the log be cut, and the anchor that names it.
use Rattle.std.specs.Prelude.{◌≡◌, ◌<◌, ◌≤◌, ◌⊎◌, ◌-◌, ◌==◌, ℕ, List, [], ◌∷◌, Option, None, Some, if◌then◌else◌, min, take}
use Rattle.shore_types.specs.declared.ids.PageId.{PageId}
use Rattle.shore_model.specs.declared.log_records.DirtyPage.{DirtyPage}
use Rattle.shore_model.specs.declared.log_records.LogRecord.{LogRecord}
use Rattle.shore_model.specs.declared.log_records.LogTxn.{LogTxn}
use Rattle.shore_model.specs.declared.log_records.Payload.{Payload}
use Rattle.shore_model.specs.declared.log_records.Payload.TheVariants.{Change, Compensation, Commit, End, Prepare, RollbackDecided, CheckpointBegin, CheckpointEnd, Anchor}
use Rattle.laws_lives.specs.DirtyPages.{HasAllUpTo, redo_begins_behind, surely_on_page}
use Rattle.laws_lives.specs.Pages.{LoggedPages}

-- what an End says
pub record Checkpoint : Type 0 where
  pub begin : ℕ
  pub next : ℕ
  pub txns : List LogTxn
  pub dirty : List DirtyPage

abbrev pub end_payload : Checkpoint → Payload
end_payload c = CheckpointEnd c.begin c.next c.txns c.dirty

-- the checkpoint's records are of no transaction
abbrev pub of_checkpoint : Payload → LogRecord
of_checkpoint payload = record { txn = 0; previous = 0; payload = payload }

-- ---- the End of a checkpoint in a log

-- what the payload says of a checkpoint, if it is the End of the one that begins at this number
abbrev pub end_in : ℕ → Payload → Option Checkpoint
end_in begin (CheckpointEnd b next txns dirty) = if b == begin then Some (record { begin = b; next = next; txns = txns; dirty = dirty }) else None
end_in begin (Change id before image) = None
end_in begin (Compensation id image undo_next) = None
end_in begin Commit = None
end_in begin End = None
end_in begin (Prepare global granules) = None
end_in begin RollbackDecided = None
end_in begin CheckpointBegin = None
end_in begin (Anchor checkpoint tail) = None

abbrev pub or_next_end : Option Checkpoint → Option Checkpoint → Option Checkpoint
or_next_end (Some c) next = Some c
or_next_end None next = next

-- the first End of that checkpoint among these records
abbrev pub end_among : ℕ → List LogRecord → Option Checkpoint
end_among begin [] = None
end_among begin (r ∷ rs) = or_next_end (end_in begin r.payload) (end_among begin rs)

-- ---- the table of pages

-- It is right of these pages: each has all the records that it says are on it. None of those that change the page has a number above the page's, so
-- none of them would be done on it again.
abbrev pub TableIsRight : List LogRecord → ℕ → List DirtyPage → LoggedPages → Type 0
TableIsRight log begin dirty pages = (p : PageId) → HasAllUpTo log p (pages p) (surely_on_page begin dirty p)

-- redo begins behind this record, by the End that the anchor leads to
abbrev pub redo_behind : Option Checkpoint → ℕ
redo_behind None = 0
redo_behind (Some c) = redo_begins_behind c.begin c.dirty

-- ---- where the log may be cut

abbrev pub least_recovery : ℕ → List DirtyPage → ℕ
least_recovery n [] = n
least_recovery n (d ∷ ds) = min d.recovery (least_recovery n ds)

abbrev pub least_first : ℕ → List LogTxn → ℕ
least_first n [] = n
least_first n (e ∷ es) = min e.first (least_first n es)

-- the least of the begin's number, of the pages' recovery numbers and of the transactions' first numbers: the kept log may begin here
abbrev pub cut_point : Checkpoint → ℕ
cut_point c = least_first (least_recovery c.begin c.dirty) c.txns

-- ---- the anchor

-- the number of the checkpoint's begin, 0 if there is none yet, and of the first record that is kept
pub record Anchored : Type 0 where
  pub checkpoint : ℕ
  pub tail : ℕ

-- a formatted log is read from its first record on
abbrev pub not_anchored : Anchored
not_anchored = record { checkpoint = 0; tail = 1 }

-- how many first records are cut off
abbrev pub cut_of : Anchored → ℕ
cut_of a = a.tail - 1

-- The checkpoint's End is among the durable records, its table of pages is right of the volume's and of those in place, and nothing behind
-- its cut point is cut off.
pub record IsAnchoredAt (log : List LogRecord) (durable : ℕ) (volume in_place : LoggedPages) (a : Anchored) (c : Checkpoint) : Type 0 where
  pub some : 0 < a.checkpoint
  pub is_its : c.begin ≡ a.checkpoint
  pub found : end_among a.checkpoint (take durable log) ≡ Some c
  pub on_volume : TableIsRight log c.begin c.dirty volume
  pub now : TableIsRight log c.begin c.dirty in_place
  pub first : 0 < a.tail
  pub tail : a.tail ≤ cut_point c

abbrev pub IsAnchoredRight : List LogRecord → ℕ → LoggedPages → LoggedPages → Anchored → Type 0
IsAnchoredRight log durable volume in_place a = (a ≡ not_anchored) ⊎ ((c : Checkpoint) × IsAnchoredAt log durable volume in_place a c)
