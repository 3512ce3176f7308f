-- The dirty pages of a heap.
use Rattle.std.specs.Prelude.{◌≡◌, ◌≤◌, ℕ, List, None, Some, Contains, IsSomeAnd, option_map}
use Rattle.shore_disk.specs.declared.device.Disk.{Ghosts}
use Rattle.shore_model.specs.declared.log_records.DirtyPage.{DirtyPage}
use Rattle.shore_pool.specs.declared.frame.Frame.{Frame}
use Rattle.shore_pool.specs.FrameMaps.{dirty_page}
use Rattle.shore_heap.specs.declared.heap.Heap.{Heap}
use Rattle.shore_heap.specs.Heaps.{frame_at}

-- an entry of a dirty page in a frame, with its recovery number
abbrev pub IsDirtyIn : {D : Type 0} {G : Ghosts D} → Heap D G → DirtyPage → Type 0
IsDirtyIn heap entry = (k : ℕ) × IsSomeAnd (frame_at heap k) (λ f. (f.page.id ≡ entry.page) × (f.recovery ≡ Some entry.recovery))

-- each dirty page has its entry
abbrev pub HasAllDirty : {D : Type 0} {G : Ghosts D} → Heap D G → List DirtyPage → Type 0
HasAllDirty heap list = (k : ℕ) (f : Frame) (recovery : ℕ) → frame_at heap k ≡ Some f → f.recovery ≡ Some recovery → Contains list (dirty_page f recovery)

-- no dirty page has a lower recovery number
abbrev pub IsDirtyFirst : {D : Type 0} {G : Ghosts D} → Heap D G → DirtyPage → Type 0
IsDirtyFirst heap entry = (k : ℕ) (f : Frame) (recovery : ℕ) → frame_at heap k ≡ Some f → f.recovery ≡ Some recovery → entry.recovery ≤ recovery

-- no page is dirty
abbrev pub NoneDirty : {D : Type 0} {G : Ghosts D} → Heap D G → Type 0
NoneDirty heap = (k : ℕ) (f : Frame) → frame_at heap k ≡ Some f → f.recovery ≡ None

-- no page has become dirty or clean
abbrev pub SameDirt : {D : Type 0} {G : Ghosts D} → Heap D G → Heap D G → Type 0
SameDirt old new = (k : ℕ) → option_map (λ f. f.recovery) (frame_at new k) ≡ option_map (λ f. f.recovery) (frame_at old k)
