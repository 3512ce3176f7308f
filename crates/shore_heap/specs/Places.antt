-- Where a new record of a store may go.
use Rattle.std.specs.Prelude.{◌≡◌, ◌⊎◌, ◌≤◌, ℕ, List}
use Rattle.shore_dwrite.specs.Volumes.{HasNoPage, page_number, page_offset}
use Rattle.shore_types.specs.declared.faults.Device.TheVariants as device
use Rattle.shore_types.specs.declared.faults.Fault.{Fault}
use Rattle.shore_types.specs.declared.faults.Fault.TheVariants as fault
use Rattle.shore_types.specs.declared.ids.PageId.{PageId}
use Rattle.shore_types.specs.declared.ids.Rid.{Rid}
use Rattle.shore_types.specs.declared.layout.Geometry.{Geometry}
use Rattle.shore_types.specs.Layout.{HasPage}
use Rattle.shore_types.specs.declared.versions.Version.{Version}
use Rattle.shore_page.specs.Room.{IsCandidate}
use Rattle.shore_page.specs.Slots.{Slot}

-- any place may be taken
abbrev pub anywhere : Rid → Type 0
anywhere id = Unit {0}

-- the slots of a page that may be taken
abbrev pub slots_of : (Rid → Type 0) → PageId → ℕ → Type 0
slots_of MayTake page slot = MayTake (record { page = page; slot = slot })

-- of all candidates of a page for so many bytes that may be taken, the first
pub record IsFirstSlot (v : Version) (slots : List Slot) (bytes : ℕ) (MayTake : ℕ → Type 0) (slot : ℕ) : Type 0 where
  pub candidate : IsCandidate v slots slot bytes
  pub allowed : MayTake slot
  pub first : (other : ℕ) → IsCandidate v slots other bytes → MayTake other → slot ≤ other

-- there is none
abbrev pub HasNoSlot : Version → List Slot → ℕ → (ℕ → Type 0) → Type 0
HasNoSlot v slots bytes MayTake = (slot : ℕ) → IsCandidate v slots slot bytes → MayTake slot → ⊥

module _ (g : Geometry) (S : PageId → List Slot) (store bytes : ℕ) (MayTake : Rid → Type 0) where
  -- a candidate for so many bytes on a page of the store, an empty slot or the one behind the last, that may be taken
  pub record Takes (id : Rid) : Type 0 where
    pub there : HasPage g id.page
    pub of_store : id.page.store ≡ store
    pub candidate : IsCandidate g.version (S id.page) id.slot bytes
    pub allowed : MayTake id

  -- of all such slots the first: by page, and then by slot
  pub record IsPlace (id : Rid) : Type 0 where
    pub takes : Takes id
    pub first : (other : Rid) → Takes other → (id.page.page ≤ other.page.page) × (other.page.page ≡ id.page.page → id.slot ≤ other.slot)

  -- there is none
  abbrev pub HasNoPlace : Type 0
  HasNoPlace = (id : Rid) → Takes id → ⊥

-- what a call is refused with that fetches such pages: the device failed, an allocation did, or one of them has no text with a number up to the last
abbrev pub IsRefusedAmong : Geometry → (ℕ → List ℕ) → (PageId → Type 0) → ℕ → Fault → Type 0
IsRefusedAmong g disk IsFetched last it = (it ≡ fault.Device) ⊎ (it ≡ fault.Memory)
    ⊎ ((id : PageId) × HasPage g id × IsFetched id × (it ≡ fault.Damaged device.Volume (page_offset g.version (page_number g id))) × HasNoPage g.version (disk (page_number g id)) id last)

-- .. the pages of a store
abbrev pub IsRefused : Geometry → (ℕ → List ℕ) → ℕ → ℕ → Fault → Type 0
IsRefused g disk store last it = IsRefusedAmong g disk (λ id. id.store ≡ store) last it
