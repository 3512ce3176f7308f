-- Devices that a manager for threads handed back, of which no world was made.
use Rattle.std.specs.Prelude.{◌≡◌, ◌≤◌, ℕ, List, [], All, length, take}
use Rattle.shore_types.specs.declared.layout.Geometry.{Geometry}
use Rattle.shore_disk.specs.Device.{DeviceHistory, may_leave}
use Rattle.shore_fronts.specs.Volumes.{volume_bytes}
use Rattle.shore_gate.specs.declared.anchors.Anchor.{Anchor}
use Rattle.shore_model.specs.declared.histories.Entry.{Entry}
use Rattle.shore_model.specs.declared.step.Step.{Step}
use Rattle.laws_lives.specs.Pages.{LoggedPages}
use Rattle.laws_images.specs.StandsBehind.{StandsForBehind}
use Rattle.laws_runs.specs.CheckpointSteps.{CheckpointedMove, CheckpointedMoves, CheckpointedState, Goes}
use Rattle.laws_runs.specs.StoredRuns.{Tend}
use Rattle.laws_threads.specs.Amid.{IsLeftThen, IsMoment}
use Rattle.shore_world.specs.EventMoves.{moves_among}
use Rattle.shore_held.specs.Comings.{Beginning}
use Rattle.shore_held.specs.Trails.{moves_of}
use Rattle.shore_held.specs.declared.asked.Asked.{Asked}

-- From this beginning a trail, what was asked and what that came to, has led to the manager that the devices were of. Whatever pair of images a loss of power leaves of them now stands for a
-- prefix of its log with all of these numbers. Such a loss of power is one in threads of which nothing is under way, and of whose log so much is forced: so their manager is one that ended there.
pub record AreHandedBack (start : Beginning) (asked : List (Asked × ℕ)) (stepped : List (Step × ℕ)) (g : Geometry) (log_bytes stable : ℕ) (numbers : List ℕ) (log volume : DeviceHistory) : Type 0 where
  pub plain : List CheckpointedMove
  pub made : List Entry
  pub last : CheckpointedState
  pub moves : CheckpointedMoves g start.first plain last made
  pub are : moves_among plain ≡ moves_of asked stepped
  pub stand : (log_image volume_image : List ℕ) → may_leave log log_image → may_leave volume volume_image
      → (anchor : Anchor) × (n : ℕ) × (pages : LoggedPages) × (n ≤ length last.store.store.log) × All (λ m. m ≤ n) numbers
      × StandsForBehind g log_bytes (volume_bytes g) anchor (take n last.store.store.log) pages log_image volume_image
  pub left : (log_image volume_image : List ℕ) → may_leave log log_image → may_leave volume volume_image
      → (anchor : Anchor) × IsMoment g last (Goes (Tend [])) last anchor stable numbers × IsLeftThen g log_bytes start.front last last anchor stable log_image volume_image
