-- A pair from which a world was opened was in order.
use Rattle.std.proofs.Common.{◌≡◌, ◌++◌, [], ℕ, List, sym, ap, subst, ◌∙◌, append-nil}
use Rattle.shore_types.specs.declared.layout.Geometry.{Geometry}
use Rattle.shore_disk.specs.Device.{DeviceHistory, seen}
use Rattle.shore_gate.specs.declared.anchors.Anchor.{Anchor}
use Rattle.shore_dwrite.specs.Shown.{Shows}
use Rattle.shore_frames.specs.Frames.{GivesFrom}
use Rattle.shore_model.specs.declared.log_records.LogRecord.{LogRecord}
use Rattle.laws_checkpoints.specs.Checkpoints.{end_among}
use Rattle.shore_analysis.specs.KeptTables.{redo_table}
use Rattle.shore_analysis.specs.Padded.{padded}
use Rattle.shore_restart.specs.Anchors.{HasCheckpoint}
use Rattle.shore_restart.specs.AnyPages.{NoneMisfitsOn, due_seen}
use Rattle.shore_restart.specs.Doubts.{IsTaken}
use Rattle.shore_world.specs.InOrder.{WereInOrder}
use Rattle.shore_world.specs.Refusals.{cut_behind}

-- no more records wait
pub with_none : (rs waiting : List LogRecord) → waiting ≡ [] → rs ≡ rs ++ waiting
with_none rs waiting none = sym (ap (λ (more : List LogRecord). rs ++ more) none ∙ append-nil rs)

-- .. by what the restart of it says, over its own heap, anchor and log device
pub in_order_at : (h g : Geometry) → h ≡ g → (found anchor : Anchor) → found ≡ anchor → (cut : ℕ) → cut ≡ cut_behind found → (cut_later : ℕ) → cut_later ≡ cut → (log volume : DeviceHistory) (kept later waiting : List LogRecord) → waiting ≡ []
    → GivesFrom found.tail found.tail_place kept (seen log) → HasCheckpoint cut found.checkpoint kept → IsTaken h cut found.checkpoint kept
    → (pages : ℕ → List ℕ) → Shows h (seen volume) pages → NoneMisfitsOn h pages (padded cut kept) (due_seen (redo_table (end_among found.checkpoint kept)) cut kept) (padded cut_later later)
    → WereInOrder g anchor log volume (later ++ waiting)
in_order_at h g geometry found anchor is cut cuts cut_later same log volume kept later waiting none gives anchored taken pages shows fit =
    subst (λ (a : Anchor). WereInOrder g a log volume (later ++ waiting)) is
    (subst (λ (x : Geometry). WereInOrder x found log volume (later ++ waiting)) geometry
    (subst (WereInOrder h found log volume) (with_none later waiting none) (record {
      kept = kept;
      gives = gives;
      anchored = subst (λ n. HasCheckpoint n found.checkpoint kept) cuts anchored;
      taken = subst (λ n. IsTaken h n found.checkpoint kept) cuts taken;
      pages = pages;
      shows = shows;
      fit = subst (λ n. NoneMisfitsOn h pages (padded n kept) (due_seen (redo_table (end_among found.checkpoint kept)) n kept) (padded n later)) cuts
          (subst (λ n. NoneMisfitsOn h pages (padded cut kept) (due_seen (redo_table (end_among found.checkpoint kept)) cut kept) (padded n later)) same fit);
    })))
