-- What a heap shows over a volume, and what a call leaves of it.
use Rattle.std.specs.Prelude.{◌≡◌, ◌≢◌, ◌⊎◌, ◌≤◌, Bool, ℕ, List, MatchResult, None, OnOk, Option, Result, Some, map}
use Rattle.shore_disk.specs.Cause.{HasCause}
use Rattle.shore_disk.specs.Device.{DeviceHistory, LeavesOnly, size}
use Rattle.shore_disk.specs.declared.device.Disk.{Ghosts}
use Rattle.shore_types.specs.declared.faults.Device.TheVariants as device
use Rattle.shore_types.specs.declared.faults.Fault.{Fault}
use Rattle.shore_types.specs.declared.faults.Fault.TheVariants as fault
use Rattle.shore_types.specs.declared.ids.PageId.{PageId}
use Rattle.shore_types.specs.declared.ids.Rid.{Rid}
use Rattle.shore_types.specs.declared.layout.Geometry.{Geometry}
use Rattle.shore_types.specs.declared.log_ends.LogEnds.{LogEnds}
use Rattle.shore_types.specs.Images.{Image}
use Rattle.shore_types.specs.Layout.{HasPage}
use Rattle.shore_dwrite.specs.declared.device.PageDev.{PageDev}
use Rattle.shore_dwrite.specs.Shown.{ShowsBehind}
use Rattle.shore_dwrite.specs.Volumes.{HasNoPage, page_number, page_offset}
use Rattle.shore_page.specs.Slots.{Slot, settled}
use Rattle.shore_page.specs.Text.{IsPageText, images_of}
use Rattle.shore_pool.specs.declared.amid.Amid.{Amid}
use Rattle.shore_pool.specs.declared.frame.Frame.{Frame}
use Rattle.shore_pool.specs.declared.pool.Pool.{Pool}
use Rattle.shore_pool.specs.Changes as changes
use Rattle.shore_pool.specs.Pools as pools
use Rattle.shore_pool.specs.Pages.{SamePages, StayUnwritten}
use Rattle.shore_pool.specs.Pools.{HasInPlace, PoolHolds, NeedsForce}
use Rattle.shore_page.specs.declared.undecided.Claims as claims
use Rattle.shore_heap.specs.declared.choices.Places as choices
use Rattle.shore_heap.specs.declared.heap.Heap.{Heap}
use Rattle.shore_heap.specs.Contents.{AreBounds, AreKept, HasSlots, KeepWhatFits, ClaimsOfPages}

abbrev pub pool_of : {D : Type 0} {G : Ghosts D} → Heap D G → Pool D G
pool_of heap = heap.pool

abbrev pub device_of : {D : Type 0} {G : Ghosts D} → Heap D G → PageDev D G
device_of heap = pools.device_of heap.pool

abbrev pub geometry_of : {D : Type 0} {G : Ghosts D} → Heap D G → Geometry
geometry_of heap = pools.geometry_of heap.pool

abbrev pub history_of : {D : Type 0} {G : Ghosts D} → Heap D G → DeviceHistory
history_of heap = pools.history_of heap.pool

-- whether what is said of the device's bytes holds of it
abbrev pub honesty_of : {D : Type 0} {G : Ghosts D} → Heap D G → Bool
honesty_of heap = pools.honesty_of heap.pool

abbrev pub faults_of : {D : Type 0} {G : Ghosts D} → Heap D G → ℕ
faults_of heap = pools.faults_of heap.pool

-- for each store the bounds of its pages
abbrev pub bounds_of : {D : Type 0} {G : Ghosts D} → Heap D G → List (List ℕ)
bounds_of heap = heap.free.items

-- the frame of the page of a number on the volume
abbrev pub frame_at : {D : Type 0} {G : Ghosts D} → Heap D G → ℕ → Option Frame
frame_at heap k = pools.frame_at heap.pool k

-- .. and of a page
abbrev pub frame_of : {D : Type 0} {G : Ghosts D} → Heap D G → PageId → Option Frame
frame_of heap id = pools.frame_of heap.pool id

-- how far the batch is that is on its way to the volume
abbrev pub amid_of : {D : Type 0} {G : Ghosts D} → Heap D G → Amid
amid_of heap = pools.amid_of heap.pool

-- how many pages may have a frame
abbrev pub limit_of : {D : Type 0} {G : Ghosts D} → Heap D G → ℕ
limit_of heap = pools.limit_of heap.pool

-- what undecided changes may put back on each page
abbrev pub claims_in : {C : Type 0} (G : claims.Ghosts C) → C → ClaimsOfPages
claims_in G undecided = G.kept undecided

-- the places that may be taken
abbrev pub allowed_by : {P : Type 0} (G : choices.Ghosts P) → P → Rid → Type 0
allowed_by G places = G.MayTake places

-- The volume is settled with these texts behind this front, what is clean in a frame is there, and each page has these slots, if so much may come
-- back to it.
pub record Shows {D : Type 0} {G : Ghosts D} (K : ClaimsOfPages) (heap : Heap D G) (front : List ℕ) (disk : ℕ → List ℕ) (S : PageId → List Slot) : Type 0 where
  pub holds : PoolHolds heap.pool front disk
  pub pages : (id : PageId) → HasPage (geometry_of heap) id → HasSlots (geometry_of heap).version (frame_of heap id) (disk (page_number (geometry_of heap) id)) id (K id) (S id)
  pub bounds : AreBounds (geometry_of heap) heap.free.items S

-- ---- what a call leaves

-- Whatever the pages hold, the volume is settled as it was, and so is what is clean in a frame.
abbrev pub KeepsVolume : {D : Type 0} {G : Ghosts D} → Heap D G → Heap D G → Type 0
KeepsVolume old new = (front : List ℕ) (disk : ℕ → List ℕ) → PoolHolds old.pool front disk → PoolHolds new.pool front disk × (history_of new ≡ history_of old)

-- Each page of the volume is as it was, or as it was in place, with a number up to this one.
abbrev pub MayBeLeft : {D : Type 0} {G : Ghosts D} → Heap D G → ℕ → (ℕ → List ℕ) → (ℕ → List ℕ) → Type 0
MayBeLeft heap durable disk left = (id : PageId) → HasPage (geometry_of heap) id → (left (page_number (geometry_of heap) id) ≡ disk (page_number (geometry_of heap) id))
    ⊎ ((number : ℕ) × (images : List Image) × HasInPlace heap.pool disk id number images × (number ≤ durable) × IsPageText (geometry_of heap).version (left (page_number (geometry_of heap) id)) id number images)

-- Pages may have been written back, one after another, and all are in place as they were. A page that is still dirty was not written.
pub record StayInPlace {D : Type 0} {G : Ghosts D} (old new : Heap D G) (durable : ℕ) (disk left : ℕ → List ℕ) : Type 0 where
  pub may : MayBeLeft old durable disk left
  pub same : SamePages (geometry_of old).version (frame_at old) disk (frame_at new) left
  pub unwritten : StayUnwritten (frame_at old) disk (frame_at new) left

-- .. over a volume that is settled with the texts that this leaves
abbrev pub WroteBack : {D : Type 0} {G : Ghosts D} → Heap D G → Heap D G → ℕ → List ℕ → (ℕ → List ℕ) → Type 0
WroteBack old new durable front disk = (left : ℕ → List ℕ) × PoolHolds new.pool front left × StayInPlace old new durable disk left

-- .. and has the same slots
abbrev pub KeepsSlots : {D : Type 0} {G : Ghosts D} → ClaimsOfPages → Heap D G → Heap D G → ℕ → List ℕ → (ℕ → List ℕ) → (PageId → List Slot) → Type 0
KeepsSlots K old new durable front disk S = (left : ℕ → List ℕ) × Shows K new front left S × StayInPlace old new durable disk left

-- An image of the volume that a crash leaves in the midst of it: it shows such pages behind the same front.
abbrev pub LeavesPages : {D : Type 0} {G : Ghosts D} → Heap D G → ℕ → List ℕ → (ℕ → List ℕ) → List ℕ → Type 0
LeavesPages heap durable front disk image = (left : ℕ → List ℕ) × ShowsBehind (geometry_of heap) front left image × MayBeLeft heap durable disk left

-- the call was refused since a force is needed: no page may leave its frame
abbrev pub AsksForForce : {D : Type 0} {G : Ghosts D} → Heap D G → ℕ → Fault → Type 0
AsksForForce heap durable it = (number : ℕ) × (it ≡ fault.NeedForce number) × NeedsForce heap.pool durable number

-- what a call is refused with that fetches one page: the device failed, an allocation did, the page has no text with a number up to the last, or a
-- force is needed
abbrev pub RefusesPage : {D : Type 0} {G : Ghosts D} → Heap D G → (ℕ → List ℕ) → PageId → LogEnds → Fault → Type 0
RefusesPage heap disk id ends it = (it ≡ fault.Device) ⊎ (it ≡ fault.Memory)
    ⊎ ((it ≡ fault.Damaged device.Volume (page_offset (geometry_of heap).version (page_number (geometry_of heap) id))) × HasNoPage (geometry_of heap).version (disk (page_number (geometry_of heap) id)) id ends.last) ⊎ AsksForForce heap ends.durable it

-- A frame of a page that was read: clean, with a number up to this one, and each slot keeps what its record takes, and of what is told what finds room.
pub record IsFreshFrame (kept : List (ℕ × ℕ)) (last : ℕ) (f : Frame) : Type 0 where
  pub clean : f.recovery ≡ None
  pub number : f.page.number ≤ last
  pub slots : KeepWhatFits f.page.version kept (map settled (images_of f.page.slots)) f.page.slots

-- Each frame was there, though it may have become clean, or the page of this id was read into it.
abbrev pub FramesWere : {D : Type 0} {G : Ghosts D} → ClaimsOfPages → Heap D G → Heap D G → PageId → ℕ → Type 0
FramesWere K old new id last = (k : ℕ) (f : Frame) → frame_at new k ≡ Some f
    → ((h : Frame) × (frame_at old k ≡ Some h) × ((f ≡ h) ⊎ (f ≡ changes.settled h))) ⊎ ((k ≡ page_number (geometry_of old) id) × (frame_at old k ≡ None) × IsFreshFrame (K id) last f)

-- What a call leaves that fetches pages, whatever it answers. These claims were told, and pages with numbers up to the durable one may have been
-- written back for it.
pub record ReadsPages {D : Type 0} {G : Ghosts D} {T : Type 0} (K : ClaimsOfPages) (old new : Heap D G) (durable : ℕ) (result : Result T Fault) : Type 0 where
  -- if the slots claim what is told, they are the same
  pub kept : (front : List ℕ) (disk : ℕ → List ℕ) (S : PageId → List Slot) → Shows K old front disk S → AreKept (geometry_of old) K S
      → MatchResult result (λ _. KeepsSlots K old new durable front disk S) (λ it. (it ≡ fault.Device) ⊎ KeepsSlots K old new durable front disk S)
  -- whatever the pages hold, what is in place stays
  pub wrote : (front : List ℕ) (disk : ℕ → List ℕ) → PoolHolds old.pool front disk
      → MatchResult result (λ _. WroteBack old new durable front disk) (λ it. (it ≡ fault.Device) ⊎ WroteBack old new durable front disk)
  -- .. and a crash leaves pages that are old, or those that were in place with durable numbers
  pub any_moment : (front : List ℕ) (disk : ℕ → List ℕ) → PoolHolds old.pool front disk → LeavesOnly (history_of old) (history_of new) (LeavesPages old durable front disk)
  -- a page with a change that the volume does not have was in its frame before
  pub dirty : (front : List ℕ) (disk : ℕ → List ℕ) → PoolHolds old.pool front disk → (k : ℕ) (f : Frame) → frame_at new k ≡ Some f → f.recovery ≢ None → frame_at old k ≡ Some f
  -- a page that was read may go again, so no force is needed then that was not needed before
  pub forced : (front : List ℕ) (disk : ℕ → List ℕ) → PoolHolds old.pool front disk → OnOk result ((number : ℕ) → NeedsForce new.pool durable number → NeedsForce old.pool durable number)
  pub honest : honesty_of new ≡ honesty_of old
  pub size : size (history_of new) ≡ size (history_of old)
  pub geometry : geometry_of new ≡ geometry_of old
  pub limit : limit_of new ≡ limit_of old
  pub cause : HasCause result (faults_of old) (faults_of new)
