use Rattle.std.proofs.Common.{◌≡◌, ◌≤◌, ℕ, List, None, length}
use Rattle.shore_types.specs.declared.layout.Geometry.{Geometry}
use Rattle.shore_gate.specs.declared.anchors.Anchor.{Anchor}
use Rattle.shore_disk.specs.Device.{DeviceHistory, may_leave}
use Rattle.shore_log.specs.Settled.{records_of_log, stable, waiting}
use Rattle.laws_lives.specs.Recovery.{RecoveryState}
use Rattle.laws_images.specs.Moments.{ShowsLeft}
use Rattle.shore_restart.specs.Quiet.{IsQuiet}
use Rattle.shore_restart.specs.Standing.{IsAtRest, SameLog, log_faults}
use Rattle.shore_restart.proofs.Frames.{SoFar}
use Rattle.shore_restart.proofs.forcing.force.Given as goal

abbrev pub invariant-loop : goal.invariant-loop
invariant-loop g l = record {
  so_far : (log_front : List ℕ) (anchor : Anchor) (s : RecoveryState) → IsAtRest log_front anchor l.initial.log s → (geometry : Geometry) (front : List ℕ) (h : DeviceHistory)
      → ((c : List ℕ) → may_leave h c → ShowsLeft geometry front s c) → SoFar geometry log_front front anchor h l.initial.log l.log s;
  quiet : (log_front : List ℕ) → IsQuiet log_front l.initial.log → IsQuiet log_front l.log × (length (stable l.initial.log) ≤ length (stable l.log));
  records : records_of_log l.log ≡ records_of_log l.initial.log;
  same : SameLog l.initial.log l.log;
  faults : log_faults l.log ≡ log_faults l.initial.log;
  unstaged : l.initial.log.staged ≡ None → l.log.staged ≡ None;
}

abbrev pub decreases-loop : goal.decreases-loop
decreases-loop g l = length (waiting l.log)
