use Rattle.std.proofs.Common.{◌≡◌, ◌≤◌, ◌+◌, ℕ, List, length, [], take}
use Rattle.shore_disk.specs.Device.{DeviceHistory, may_leave}
use Rattle.shore_gate.specs.declared.anchors.Anchor.{Anchor}
use Rattle.shore_heap.specs.Heaps.{faults_of, geometry_of}
use Rattle.laws_lives.specs.Recovery.{RecoveryState}
use Rattle.laws_images.specs.MomentsBehind.{GivesKeptPrefix}
use Rattle.shore_restart.specs.AnyPages.{due_seen}
use Rattle.shore_restart.specs.Held.{IsHeld, StaysHeld}
use Rattle.shore_restart.specs.Standing.{IsToRedo, SameVolume, Stands}
use Rattle.shore_restart.proofs.AnyRedo.{FirstFindRoom}
use Rattle.shore_restart.proofs.RedoAll.{Now, SoFar}
use Rattle.shore_restart.proofs.redo.redo.Given as goal

abbrev pub invariant-loop-index : goal.invariant-loop-index
invariant-loop-index g l = record {
  so_far : (front : List ℕ) (disk : ℕ → List ℕ) (s : RecoveryState) → Stands front disk l.initial.heap s → IsToRedo l.cut l.kept l.table s
      → (h : DeviceHistory) (log_front : List ℕ) (anchor : Anchor) → ((c : List ℕ) → may_leave h c → GivesKeptPrefix log_front anchor s c)
      → SoFar l.table h log_front front anchor l.initial.heap l.heap s (l.cut + l.index);
  now : (front : List ℕ) (disk : ℕ → List ℕ) (s : RecoveryState) → Stands front disk l.initial.heap s → IsToRedo l.cut l.kept l.table s → Now l.table front l.heap s (l.cut + l.index) l.redone;
  any_pages : (front : List ℕ) (first disk : ℕ → List ℕ) → IsHeld front first disk l.initial.heap [] (l.cut + length l.kept)
      → StaysHeld front first disk l.initial.heap l.heap (l.cut + length l.kept) (take (l.cut + l.index) (due_seen l.table l.cut l.kept)) (l.cut + length l.kept);
  any_fit : (front : List ℕ) (first disk : ℕ → List ℕ) → IsHeld front first disk l.initial.heap [] (l.cut + length l.kept)
      → FirstFindRoom (geometry_of l.initial.heap) first (due_seen l.table l.cut l.kept) (l.cut + l.index);
  volume : SameVolume l.initial.heap l.heap;
  faults : faults_of l.heap ≡ faults_of l.initial.heap;
  most : l.redone ≤ l.index;
}
