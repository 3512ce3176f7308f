-- What a pair was from which a world was opened.
use Rattle.std.specs.Prelude.{ℕ, List}
use Rattle.shore_types.specs.declared.layout.Geometry.{Geometry}
use Rattle.shore_disk.specs.Device.{DeviceHistory, seen}
use Rattle.shore_gate.specs.declared.anchors.Anchor.{Anchor}
use Rattle.shore_dwrite.specs.Shown.{Shows}
use Rattle.shore_frames.specs.Frames.{GivesFrom}
use Rattle.shore_model.specs.declared.log_records.LogRecord.{LogRecord}
use Rattle.laws_checkpoints.specs.Checkpoints.{end_among}
use Rattle.shore_analysis.specs.KeptTables.{redo_table}
use Rattle.shore_analysis.specs.Padded.{padded}
use Rattle.shore_restart.specs.Anchors.{HasCheckpoint}
use Rattle.shore_restart.specs.AnyPages.{NoneMisfitsOn, due_seen}
use Rattle.shore_restart.specs.Doubts.{IsTaken}
use Rattle.shore_world.specs.Refusals.{cut_behind}

-- From the anchor's tail on the frames give a log. It has the anchored checkpoint, each record of it means what it has to, and those in doubt can hold what is theirs beside each other.
-- The volume shows pages, on which each record that is due finds room behind those before it, and then each of undo, by which what is kept has become these; and then what those in
-- doubt may put back.
pub record WereInOrder (g : Geometry) (anchor : Anchor) (log volume : DeviceHistory) (undone : List LogRecord) : Type 0 where
  pub kept : List LogRecord
  pub gives : GivesFrom anchor.tail anchor.tail_place kept (seen log)
  pub anchored : HasCheckpoint (cut_behind anchor) anchor.checkpoint kept
  pub taken : IsTaken g (cut_behind anchor) anchor.checkpoint kept
  pub pages : ℕ → List ℕ
  pub shows : Shows g (seen volume) pages
  pub fit : NoneMisfitsOn g pages (padded (cut_behind anchor) kept) (due_seen (redo_table (end_among anchor.checkpoint kept)) (cut_behind anchor) kept) (padded (cut_behind anchor) undone)
