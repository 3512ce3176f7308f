-- What stays of a pair of devices come to: a life. And what a dump of a world shows.
use Rattle.std.specs.Prelude.{◌≡◌, ℕ, List, []}
use Rattle.std.specs.FinMap.{empty}
use Rattle.shore_types.specs.declared.ids.Rid.{Rid}
use Rattle.shore_types.specs.declared.layout.Geometry.{Geometry}
use Rattle.shore_types.specs.Versions.{slot_limit}
use Rattle.shore_disk.specs.declared.device.Disk.{Ghosts}
use Rattle.shore_model.specs.declared.histories.Opening.{Opening}
use Rattle.shore_model.specs.declared.log_records.LogRecord.{LogRecord}
use Rattle.shore_model.specs.Lives.{IsLife}
use Rattle.shore_model.specs.Records.{Records, scan_of}
use Rattle.laws_lives.specs.Doubts.{IsOpeningOf}
use Rattle.laws_lives.specs.Pages.{LoggedPages, empty_page}
use Rattle.laws_lives.specs.Soundness.{opening_with}
use Rattle.laws_checkpoints.specs.Checkpoints.{Anchored, not_anchored}
use Rattle.laws_runs.specs.CheckpointedStays.{AreCheckpointedStays, CheckpointedStay, StaysShow, logs_found, spans_of_stays}
use Rattle.laws_runs.specs.StoredRuns.{AreFixed}
use Rattle.laws_orders.specs.Lives.{AreInOrder}
use Rattle.shore_world.specs.declared.world.World.{World}
use Rattle.shore_world.specs.Managers.{AreRunsOf, Stay, runs_among}
use Rattle.shore_world.specs.Worlds.{IsDumpOf}

-- Since a format these stays have come to this opening, and to this log, which says it, and these pages, behind this anchor. `ring_bytes`: the length of the log's stream.
pub record HaveLived {L V : Type 0} {G : Ghosts L} {H : Ghosts V} (g : Geometry) (ring_bytes : ℕ) (stays : List (Stay L V G H)) (o : Opening) (anchored : Anchored) (rs : List LogRecord) (pages : LoggedPages) : Type 0 where
  -- each manager's run, with the calls and answers of its legs
  pub over : List CheckpointedStay
  pub of : AreRunsOf stays (runs_among over)
  -- one on what the one before it left, behind the anchor that it left
  pub are : AreCheckpointedStays g ring_bytes (opening_with (slot_limit g.version) empty) not_anchored [] (λ p. empty_page) over anchored rs pages
  -- From the empty store each run is a sound history from what its open found, and what was kept of its decisions is a prefix with every acknowledged one:
  -- the next open finds the records that these leave, run alone in the order of their commits, and in doubt those that are prepared by them and not decided
  -- further. So does the last open, and the log tells it.
  pub life : IsLife (opening_with (slot_limit g.version) empty) (spans_of_stays [] over) o
  -- .. and each run has one serial order, that of turns: with any of those in doubt at their prepares
  pub in_order : AreInOrder (opening_with (slot_limit g.version) empty) (spans_of_stays [] over)
  pub opening : IsOpeningOf rs o
  -- each open on the way showed the records of the life so far, and the log that it found, what was cut off with it, is a prefix of every later one
  pub shown : StaysShow (opening_with (slot_limit g.version) empty) [] over
  pub fixed : AreFixed (logs_found [] over) rs

-- whatever dump the world answers, of whatever store, it has these records
abbrev pub DumpsShow : {L V : Type 0} {G : Ghosts L} {H : Ghosts V} → World L V G H → Records → Type 0
DumpsShow w records = (store : ℕ) (pairs : List (Rid × List ℕ)) → IsDumpOf w store pairs → pairs ≡ scan_of store records
