-- Pages that are written back together.
use Rattle.std.specs.Prelude.{◌≡◌, ◌⊎◌, ◌<◌, ◌≤◌, ℕ, List, All, Contains, IsSomeAnd, Some, length}
use Rattle.shore_disk.specs.declared.device.Disk.{Ghosts}
use Rattle.shore_dwrite.specs.Shown.{RiseFrom}
use Rattle.shore_types.specs.declared.layout.TheConstants.{MAX_BATCH_PAGES}
use Rattle.shore_pool.specs.declared.frame.Frame.{Frame}
use Rattle.shore_pool.specs.declared.pool.Pool.{Pool}
use Rattle.shore_pool.specs.FrameMaps.{IsDue}
use Rattle.shore_pool.specs.Pools.{frame_at}

-- these pages are dirty with numbers up to this one
abbrev pub AreDue : {D : Type 0} {G : Ghosts D} → Pool D G → ℕ → List ℕ → Type 0
AreDue pool durable numbers = All (λ k. IsSomeAnd (frame_at pool k) (IsDue durable)) numbers

-- each page from this one on that is due is one of these, or these are as many as a batch may have, and all before it
abbrev pub AreFirstFrom : {D : Type 0} {G : Ghosts D} → Pool D G → ℕ → ℕ → List ℕ → Type 0
AreFirstFrom pool start durable numbers = (k : ℕ) (f : Frame) → frame_at pool k ≡ Some f → IsDue durable f → start ≤ k
    → Contains numbers k ⊎ ((length numbers ≡ MAX_BATCH_PAGES) × All (λ n. n < k) numbers)

-- so many due pages from one on, all below a number from which the search goes on
pub record IsChosen {D : Type 0} {G : Ghosts D} (pool : Pool D G) (start durable : ℕ) (pages : List ℕ) (from count : ℕ) : Type 0 where
  pub rise : RiseFrom 0 pages
  pub least : All (λ k. start ≤ k) pages
  pub below : All (λ k. k < from) pages
  pub due : AreDue pool durable pages
  pub all : (k : ℕ) (f : Frame) → frame_at pool k ≡ Some f → IsDue durable f → start ≤ k → k < from → Contains pages k
  pub count_is : length pages ≡ count
  pub low : start ≤ from
