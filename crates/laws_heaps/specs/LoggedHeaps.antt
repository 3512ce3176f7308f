-- What the pages of a volume and of a heap over it are as the log speaks of them: a number, and an image for each slot.
use Rattle.std.specs.Prelude.{◌≡◌, ◌≢◌, ℕ, List, None, Some, length, map, option_map, slice_index_or, take}
use Rattle.shore_types.specs.Images.{Image}
use Rattle.shore_types.specs.Layout.{HasPage}
use Rattle.shore_types.specs.declared.ids.PageId.{PageId}
use Rattle.shore_types.specs.declared.ids.Rid.{Rid}
use Rattle.shore_types.specs.declared.layout.Geometry.{Geometry}
use Rattle.shore_types.specs.declared.versions.Version.{Version}
use Rattle.shore_model.specs.declared.log_records.LogRecord.{LogRecord}
use Rattle.shore_disk.specs.declared.device.Disk.{Ghosts}
use Rattle.shore_page.specs.Room.{lowered}
use Rattle.shore_page.specs.Slots.{Slot, settled}
use Rattle.shore_page.specs.Text.{IsPageText, images_of}
use Rattle.shore_dwrite.specs.Shown.{ShowsBehind}
use Rattle.shore_dwrite.specs.Volumes.{page_number}
use Rattle.shore_pool.specs.declared.frame.Frame.{Frame}
use Rattle.shore_pool.specs.Changes.{changed, reclaimed}
use Rattle.shore_pool.specs.Pools.{HasInPlace}
use Rattle.shore_heap.specs.declared.heap.Heap.{Heap}
use Rattle.shore_heap.specs.Heaps.{frame_at, frame_of, geometry_of, pool_of}
use Rattle.laws_lives.specs.DirtyPages.{HasAllUpTo}
use Rattle.laws_lives.specs.Pages.{LoggedPage, LoggedPages, empty_page}
use Rattle.laws_lives.specs.Recovery.{RecoveryState}
use Rattle.laws_room.specs.Claims.{each_from}
use Rattle.laws_runs.specs.SlotCounts.{slot_count}

-- ---- one page

-- These images are the page's, one for each slot that it has by the records up to its number.
pub record HasImages (log : List LogRecord) (p : PageId) (page : LoggedPage) (images : List Image) : Type 0 where
  pub slots : (i : ℕ) → page.slots i ≡ slice_index_or images i None
  pub count : length images ≡ slot_count (take page.number log) p

-- the bytes are a text of the page
pub record IsTextOf (v : Version) (log : List LogRecord) (bytes : List ℕ) (p : PageId) (page : LoggedPage) : Type 0 where
  pub images : List Image
  pub text : IsPageText v bytes p page.number images
  pub has : HasImages log p page images

-- it is in place, in a frame or over these texts of the volume
pub record IsInPlace {D : Type 0} {G : Ghosts D} (log : List LogRecord) (heap : Heap D G) (disk : ℕ → List ℕ) (p : PageId) (page : LoggedPage) : Type 0 where
  pub images : List Image
  pub here : HasInPlace (pool_of heap) disk p page.number images
  pub has : HasImages log p page images

-- the pages have one number, and one image in each slot
pub record IsSamePage (page other : LoggedPage) : Type 0 where
  pub number : page.number ≡ other.number
  pub slots : (i : ℕ) → page.slots i ≡ other.slots i

-- ---- all pages

-- pages that are not on the volume have nothing
abbrev pub AreInside : Geometry → LoggedPages → Type 0
AreInside g pages = (p : PageId) → (HasPage g p → ⊥) → pages p ≡ empty_page

-- these are the texts of the pages
pub record AreTextsOf (log : List LogRecord) (g : Geometry) (texts : ℕ → List ℕ) (pages : LoggedPages) : Type 0 where
  pub each : (p : PageId) → HasPage g p → IsTextOf g.version log (texts (page_number g p)) p (pages p)
  pub inside : AreInside g pages

-- each record that is done on the pages in place is on its page: none that changes a page has a number above the page's
abbrev pub AreDone : RecoveryState → Type 0
AreDone s = (p : PageId) → HasAllUpTo s.log p (s.in_place p) s.redone

-- The heap is the store's, over these texts of the volume: a read of the volume gives the store's pages there, and what is in place in the heap are
-- the store's pages in place, on which each record is that is done.
pub record IsStoreOf {D : Type 0} {G : Ghosts D} (heap : Heap D G) (disk : ℕ → List ℕ) (store : RecoveryState) : Type 0 where
  pub volume : AreTextsOf store.log (geometry_of heap) disk store.volume
  pub in_place : (p : PageId) → HasPage (geometry_of heap) p → IsInPlace store.log heap disk p (store.in_place p)
  pub inside : AreInside (geometry_of heap) store.in_place
  pub done : AreDone store

-- an image of the volume that shows these pages behind this front
abbrev pub LeavesStore : List LogRecord → Geometry → List ℕ → LoggedPages → List ℕ → Type 0
LeavesStore log g front pages image = (texts : ℕ → List ℕ) × ShowsBehind g front texts image × AreTextsOf log g texts pages

-- each slot of a frame claims what its record takes
abbrev pub AreSettled : {D : Type 0} {G : Ghosts D} → Heap D G → Type 0
AreSettled heap = (k : ℕ) (f : Frame) → frame_at heap k ≡ Some f → f.page.slots ≡ map settled (images_of f.page.slots)

-- ---- frames

-- the change of a record of this number was made in the frame of its page, and no other frame was touched
abbrev pub IsMade : {D : Type 0} {G : Ghosts D} → Heap D G → Heap D G → ℕ → Rid → Image → Type 0
IsMade old new number id image = (frame_at new (page_number (geometry_of old) id.page) ≡ option_map (changed number id.slot image) (frame_of old id.page))
    × ((k : ℕ) → k ≢ page_number (geometry_of old) id.page → frame_at new k ≡ frame_at old k)

-- then its slot keeps what the record takes and no more, and no other frame was touched
abbrev pub IsReleased : {D : Type 0} {G : Ghosts D} → Heap D G → Heap D G → Rid → Type 0
IsReleased old new id = (frame_at new (page_number (geometry_of old) id.page) ≡ option_map (reclaimed (lowered 0) id.slot) (frame_of old id.page))
    × ((k : ℕ) → k ≢ page_number (geometry_of old) id.page → frame_at new k ≡ frame_at old k)

-- what a page has in its slots, each settled, as many as it has by the records up to its number
abbrev pub slots_settled : List LogRecord → PageId → LoggedPage → List Slot
slots_settled log p page = each_from (λ i. settled (page.slots i)) 0 (slot_count (take page.number log) p)

-- .. of a store's pages in place
abbrev pub slots_in_place : RecoveryState → PageId → List Slot
slots_in_place s p = slots_settled s.log p (s.in_place p)
