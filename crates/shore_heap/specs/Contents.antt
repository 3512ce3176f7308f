-- What is in the slots of each page, be it in a frame or on the volume alone, and which lengths a page is known to refuse.
use Rattle.std.specs.Prelude.{◌≡◌, ◌==◌, ◌&&◌, ◌⊎◌, ◌<◌, ◌≤◌, ℕ, Bool, List, [], ◌∷◌, Option, None, Some, length, map, slice_index_or, if◌then◌else◌}
use Rattle.shore_types.specs.declared.ids.PageId.{PageId}
use Rattle.shore_types.specs.declared.layout.Geometry.{Geometry}
use Rattle.shore_types.specs.Images.{Image}
use Rattle.shore_types.specs.Layout.{HasPage}
use Rattle.shore_types.specs.declared.versions.Version.{Version}
pub use Rattle.shore_page.specs.Claims.{FitIn, ClaimsOfPages, claimed_by, unclaimed}
use Rattle.shore_page.specs.Room.{Fits, raised}
use Rattle.shore_page.specs.Slots.{Slot, image_at_slot, settled, with_change}
use Rattle.shore_page.specs.Text.{IsPageText, images_of}
use Rattle.shore_heap.specs.Bounds.{bound_at}
use Rattle.shore_pool.specs.declared.frame.Frame.{Frame}

-- a frame whose slots keep so much more
abbrev pub claimed_frame : List (ℕ × ℕ) → Frame → Frame
claimed_frame kept f = record f { page = record f.page { slots = claimed_by kept f.page.slots } }

-- .. whose page has other slots
abbrev pub with_page_slots : List Slot → Frame → Frame
with_page_slots slots f = record f { page = record f.page { slots = slots } }

-- a slot is there, and can keep so many bytes
abbrev pub CanKeep : Version → List Slot → ℕ → ℕ → Type 0
CanKeep v slots slot bytes = (slot < length slots) × Fits v slots slot bytes

-- The slots keep what they can of these pairs, of which the last is reserved first: one for which there is no room when its turn comes is passed over.
abbrev pub KeepWhatFits : Version → List (ℕ × ℕ) → List Slot → List Slot → Type 0
KeepWhatFits v [] slots new = new ≡ slots
KeepWhatFits v (c ∷ rest) slots new = (so_far : List Slot) × KeepWhatFits v rest slots so_far
    × ((CanKeep v so_far c.0 c.1 × (new ≡ with_change (raised c.1) so_far c.0)) ⊎ ((CanKeep v so_far c.0 c.1 → ⊥) × (new ≡ so_far)))

-- A page in a frame has the slots of its frame. One that the volume alone has claims what its records take, and what may come back to it.
abbrev pub HasSlots : Version → Option Frame → List ℕ → PageId → List (ℕ × ℕ) → List Slot → Type 0
HasSlots v (Some f) text id kept slots = f.page.slots ≡ slots
HasSlots v None text id kept slots = (number : ℕ) × (images : List Image) × IsPageText v text id number images × (slots ≡ claimed_by kept (map settled images)) × FitIn v kept (map settled images)

-- Each page claims what its records take, and what may come back to it, and no more: so it may leave its frame.
abbrev pub AreKept : Geometry → ClaimsOfPages → (PageId → List Slot) → Type 0
AreKept g K S = (id : PageId) → HasPage g id → (S id ≡ claimed_by (K id) (map settled (images_of (S id)))) × FitIn g.version (K id) (map settled (images_of (S id)))

abbrev pub same_page : PageId → PageId → Bool
same_page p q = (p.store == q.store) && (p.page == q.page)

-- the slots of one page are changed
abbrev pub with_slots : (PageId → List Slot) → PageId → (List Slot → List Slot) → PageId → List Slot
with_slots S id change p = if same_page p id then change (S p) else S p

-- the bound of a page, by the free space maps of all stores
abbrev pub bound_of : List (List ℕ) → PageId → ℕ
bound_of free id = bound_at (slice_index_or free id.store []) id.page

-- no empty slot of a page takes a record of so many bytes
abbrev pub TakesNone : Version → List Slot → ℕ → Type 0
TakesNone v slots bytes = (slot : ℕ) → image_at_slot slots slot ≡ None → Fits v slots slot bytes → ⊥

-- what the bounds refuse finds no room
abbrev pub AreBounds : Geometry → List (List ℕ) → (PageId → List Slot) → Type 0
AreBounds g free S = (id : PageId) (bytes : ℕ) → HasPage g id → bound_of free id ≤ bytes → TakesNone g.version (S id) bytes
