-- A heap over pages of which nothing is known: what work on them leaves, and which faults of the volume it tells.
use Rattle.std.specs.Prelude.{◌≡◌, ◌⊎◌, ◌<◌, ◌≤◌, [], ℕ, List, Some, Result, Err, IfErr, OnOk, map}
use Rattle.shore_types.specs.Layout.{HasPage}
use Rattle.shore_types.specs.declared.faults.Device.TheVariants.{Volume}
use Rattle.shore_types.specs.declared.faults.Fault.{Fault}
use Rattle.shore_types.specs.declared.faults.Fault.TheVariants as fault
use Rattle.shore_types.specs.declared.ids.PageId.{PageId}
use Rattle.shore_types.specs.declared.layout.Geometry.{Geometry}
use Rattle.shore_model.specs.declared.log_records.LogRecord.{LogRecord}
use Rattle.shore_disk.specs.declared.device.Disk.{Ghosts}
use Rattle.shore_dwrite.specs.Volumes.{HasNoPage, page_number, page_offset}
use Rattle.shore_page.specs.Slots.{settled}
use Rattle.shore_page.specs.Text.{images_of}
use Rattle.shore_pool.specs.declared.frame.Frame.{Frame}
use Rattle.shore_pool.specs.Pools.{HasInPlace, PoolHolds}
use Rattle.shore_heap.specs.declared.heap.Heap.{Heap}
use Rattle.shore_heap.specs.Contents.{ClaimsOfPages, FitIn, KeepWhatFits, claimed_by}
use Rattle.shore_heap.specs.Heaps as heaps
use Rattle.laws_heaps.specs.LoggedHeaps.{AreSettled}
use Rattle.shore_restart.specs.AnyPages.{IsMadeOf, ReadPage}
use Rattle.shore_restart.specs.declared.errors.RestartError.{RestartError}
use Rattle.shore_restart.specs.declared.errors.RestartError.TheVariants.{Page}

-- the volume failed, or a page is damaged, one of those that may be read: its bytes are no text of it with a number up to this one
abbrev pub IsPageFault : Geometry → (PageId → Type 0) → (ℕ → List ℕ) → ℕ → Fault → Type 0
IsPageFault g may_read disk last f = (f ≡ fault.Device)
    ⊎ ((id : PageId) × HasPage g id × may_read id × (f ≡ fault.Damaged Volume (page_offset g.version (page_number g id))) × HasNoPage g.version (disk (page_number g id)) id last)

module _ {V : Type 0} {H : Ghosts V} where
  -- the heap has this page in place, over these texts of its volume
  abbrev pub HasRead : Heap V H → (ℕ → List ℕ) → PageId → ReadPage → Type 0
  HasRead heap disk p page = HasInPlace heap.pool disk p page.number page.images

  -- The volume is settled with these texts of its pages behind this front, and what is clean in a frame is there. Each frame has a number up to this one,
  -- and its slots claim what their records take. Each page in place is what redo of these records makes of its first text.
  pub record IsHeld (front : List ℕ) (first disk : ℕ → List ℕ) (heap : Heap V H) (done : List LogRecord) (last : ℕ) : Type 0 where
    pub holds : PoolHolds heap.pool front disk
    pub low : (k : ℕ) (f : Frame) → heaps.frame_at heap k ≡ Some f → f.page.number ≤ last
    pub settled : AreSettled heap
    pub made : (p : PageId) (page : ReadPage) → HasPage (heaps.geometry_of heap) p → HasRead heap disk p page → IsMadeOf (heaps.geometry_of heap).version (first (page_number (heaps.geometry_of heap) p)) done p page

  -- It is so over other texts, with these records done, up to a later number: a page with no text of it up to that one had none up to the one before.
  pub record StaysHeld (front : List ℕ) (first disk : ℕ → List ℕ) (old new : Heap V H) (last : ℕ) (done : List LogRecord) (later : ℕ) : Type 0 where
    pub left : ℕ → List ℕ
    pub held : IsHeld front first left new done later
    pub bad : (id : PageId) → HasPage (heaps.geometry_of old) id → HasNoPage (heaps.geometry_of old).version (left (page_number (heaps.geometry_of old) id)) id later
        → HasNoPage (heaps.geometry_of old).version (disk (page_number (heaps.geometry_of old) id)) id last

  -- A fetch of one of these pages tells such a fault, or that a force is needed up to a number that is not durable. Unless the volume failed the heap is held so still.
  pub record FetchesHeld (result : Result (Unit {0}) RestartError) (may_read : PageId → Type 0) (front : List ℕ) (first disk : ℕ → List ℕ) (old new : Heap V H) (done : List LogRecord) (last durable : ℕ) : Type 0 where
    pub named : IfErr result (λ error. (f : Fault) → error ≡ Page f → IsPageFault (heaps.geometry_of old) may_read disk last f ⊎ ((n : ℕ) × (f ≡ fault.NeedForce n) × (durable < n) × (n ≤ last)))
    pub stays : (result ≡ Err (Page fault.Device)) ⊎ StaysHeld front first disk old new last done last

  -- Work of a restart that reads these pages at most tells such a fault and no other of the volume, and if it was not refused the heap is held so still, with these records done.
  pub record WorksHeld {A : Type 0} (result : Result A RestartError) (may_read : PageId → Type 0) (front : List ℕ) (first disk : ℕ → List ℕ) (old new : Heap V H) (last : ℕ) (done : List LogRecord) (later : ℕ) : Type 0 where
    pub named : IfErr result (λ error. (f : Fault) → error ≡ Page f → IsPageFault (heaps.geometry_of old) may_read disk last f)
    pub stays : OnOk result (StaysHeld front first disk old new last done later)

  -- ---- while claims are kept

  -- The heap is held so, but slots of a frame claim besides what is kept so far, or what found room of all as the page was read; and what is kept so far fits,
  -- on a page that is there.
  pub record IsHeldSoFar (all so_far : ClaimsOfPages) (front : List ℕ) (first disk : ℕ → List ℕ) (heap : Heap V H) (done : List LogRecord) (last : ℕ) : Type 0 where
    pub holds : PoolHolds heap.pool front disk
    pub low : (k : ℕ) (f : Frame) → heaps.frame_at heap k ≡ Some f → f.page.number ≤ last
    pub made : (p : PageId) (page : ReadPage) → HasPage (heaps.geometry_of heap) p → HasRead heap disk p page → IsMadeOf (heaps.geometry_of heap).version (first (page_number (heaps.geometry_of heap) p)) done p page
    pub claims : (p : PageId) (f : Frame) → HasPage (heaps.geometry_of heap) p → heaps.frame_of heap p ≡ Some f
        → (f.page.slots ≡ claimed_by (so_far p) (map settled (images_of f.page.slots))) ⊎ KeepWhatFits (heaps.geometry_of heap).version (all p) (map settled (images_of f.page.slots)) f.page.slots
    pub fits : (p : PageId) (page : ReadPage) → HasPage (heaps.geometry_of heap) p → HasRead heap disk p page → FitIn (heaps.geometry_of heap).version (so_far p) (map settled page.images)
    pub there : (p : PageId) → HasPage (heaps.geometry_of heap) p → (so_far p ≡ []) ⊎ ((page : ReadPage) × HasRead heap disk p page)

  -- it is so over other texts
  pub record StaysHeldSoFar (all so_far : ClaimsOfPages) (front : List ℕ) (first disk : ℕ → List ℕ) (old new : Heap V H) (done : List LogRecord) (last : ℕ) : Type 0 where
    pub left : ℕ → List ℕ
    pub held : IsHeldSoFar all so_far front first left new done last
    pub bad : (id : PageId) → HasPage (heaps.geometry_of old) id → HasNoPage (heaps.geometry_of old).version (left (page_number (heaps.geometry_of old) id)) id last
        → HasNoPage (heaps.geometry_of old).version (disk (page_number (heaps.geometry_of old) id)) id last

  -- Such work tells no other fault of the volume, and if it was not refused the heap is held so still, with these claims so far.
  pub record KeepsHeld (result : Result (Unit {0}) RestartError) (may_read : PageId → Type 0) (all so_far : ClaimsOfPages) (front : List ℕ) (first disk : ℕ → List ℕ) (old new : Heap V H) (done : List LogRecord) (last : ℕ) : Type 0 where
    pub named : IfErr result (λ error. (f : Fault) → error ≡ Page f → IsPageFault (heaps.geometry_of old) may_read disk last f)
    pub stays : OnOk result (StaysHeldSoFar all so_far front first disk old new done last)
