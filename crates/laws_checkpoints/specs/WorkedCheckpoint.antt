-- Two runs of a checkpoint, worked by hand. In the first a transaction inserts into page 0.0 and commits; the page is flushed, and a checkpoint is made: its
-- begin is record 3, and so is its tail. In the second a transaction inserts, its page is flushed, it inserts again and commits, and then a checkpoint is
-- made: the tail is record 2, and its first record is cut off.
use Rattle.std.specs.Prelude.{ℕ, List, [], ◌∷◌, None, Some}
use Rattle.shore_types.specs.declared.ids.PageId.{PageId}
use Rattle.shore_types.specs.declared.ids.Rid.{Rid}
use Rattle.shore_model.specs.declared.log_records.LogRecord.{LogRecord}
use Rattle.shore_model.specs.declared.log_records.Payload.TheVariants.{Anchor, Change, CheckpointBegin, Commit}
use Rattle.laws_lives.specs.Recovery.{AppendRecord, FlushPage, ForceLog}
use Rattle.laws_checkpoints.specs.Checkpoints.{Checkpoint, end_payload, of_checkpoint}
use Rattle.laws_checkpoints.specs.CheckpointedStores.{BeginCheckpoint, CheckpointedEvent, EndCheckpoint, MoveAnchor, NameCheckpoint, StoreEvent}

abbrev pub first_page : PageId
first_page = record { store = 0; page = 0 }

abbrev pub slot_of_page : ℕ → Rid
slot_of_page i = record { page = first_page; slot = i }

-- transaction 1 inserts into this slot; the number of its record before
abbrev pub inserted : ℕ → ℕ → List ℕ → LogRecord
inserted previous slot bytes = record { txn = 1; previous = previous; payload = Change (slot_of_page slot) None (Some bytes) }

abbrev pub committed : ℕ → LogRecord
committed previous = record { txn = 1; previous = previous; payload = Commit }

-- a checkpoint that finds nobody under way and no page dirty
abbrev pub of_nothing : ℕ → Checkpoint
of_nothing begin = record { begin = begin; next = 2; txns = []; dirty = [] }

abbrev pub its_records : ℕ → List LogRecord
its_records begin = of_checkpoint CheckpointBegin ∷ of_checkpoint (end_payload (of_nothing begin)) ∷ of_checkpoint (Anchor begin begin) ∷ []

abbrev pub flushed_and_checkpointed : List ℕ → List CheckpointedEvent
flushed_and_checkpointed bytes =
    StoreEvent (AppendRecord (inserted 0 0 bytes)) ∷ StoreEvent (AppendRecord (committed 1)) ∷ StoreEvent (ForceLog 2) ∷ StoreEvent (FlushPage first_page)
    ∷ BeginCheckpoint 2 [] [] ∷ EndCheckpoint ∷ StoreEvent (ForceLog 4) ∷ NameCheckpoint ∷ StoreEvent (ForceLog 5) ∷ MoveAnchor 3 ∷ []

-- behind record 1, which is cut off, the second record of its transaction, its Commit, and a checkpoint that lists the page with record 2
abbrev pub across_the_tail : List ℕ → List LogRecord
across_the_tail bytes =
    inserted 1 1 bytes ∷ committed 2 ∷ of_checkpoint CheckpointBegin
    ∷ of_checkpoint (end_payload (record { begin = 4; next = 2; txns = []; dirty = record { page = first_page; recovery = 2 } ∷ [] })) ∷ of_checkpoint (Anchor 4 2) ∷ []
