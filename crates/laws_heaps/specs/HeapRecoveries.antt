-- The recovery numbers of a heap's pages (ARIES: RecLSN).
use Rattle.std.specs.Prelude.{◌≡◌, ◌≢◌, ℕ, Option, None, Some}
use Rattle.shore_types.specs.Layout.{HasPage}
use Rattle.shore_types.specs.declared.ids.PageId.{PageId}
use Rattle.shore_disk.specs.declared.device.Disk.{Ghosts}
use Rattle.shore_pool.specs.declared.frame.Frame.{Frame}
use Rattle.shore_pool.specs.FrameMaps.{recovery_of}
use Rattle.shore_heap.specs.declared.heap.Heap.{Heap}
use Rattle.shore_heap.specs.Heaps.{frame_at, frame_of, geometry_of}
use Rattle.laws_checkpoints.specs.RecoveryNumbers.{RecoveryNumbers}

-- that of the page in a frame: 0 if it is clean, or in none
abbrev pub recovery_in : Option Frame → ℕ
recovery_in None = 0
recovery_in (Some f) = recovery_of f

-- The numbers are the heap's: each page has that of its frame, and what is not on the volume has none. That of a dirty page is a record's.
pub record HasRecoveries {D : Type 0} {G : Ghosts D} (heap : Heap D G) (recovery : RecoveryNumbers) : Type 0 where
  pub each : (p : PageId) → HasPage (geometry_of heap) p → recovery p ≡ recovery_in (frame_of heap p)
  pub inside : (p : PageId) → (HasPage (geometry_of heap) p → ⊥) → recovery p ≡ 0
  pub some : (k : ℕ) (f : Frame) → frame_at heap k ≡ Some f → f.recovery ≢ Some 0
