-- The room of a page: what its slots claim, what is free, and which changes fit.
use Rattle.std.specs.Prelude.{◌≡◌, ◌≢◌, ℕ, ◌+◌, ◌-◌, ◌*◌, ◌<◌, ◌≤◌, max, min, List, length, All, slice_get, None}
use Rattle.std.specs.List.{sum_by}
use Rattle.std.specs.Option.{option_map_or}
use Rattle.shore_types.specs.declared.versions.Version.{Version}
use Rattle.shore_page.specs.Slots.{Slot, image_at_slot}
use Rattle.shore_types.specs.Images.{image_len, Image}
use Rattle.shore_types.specs.Versions.{page_room, record_limit, slot_limit}

-- the bytes that the slots keep together
abbrev pub claims : List Slot → ℕ
claims slots = sum_by (λ s. s.claim) slots

-- what the header, the slot table and the claims leave of a page
abbrev pub free_bytes : Version → List Slot → ℕ
free_bytes v slots = page_room v - 4 * length slots - claims slots

-- the bytes kept for a slot, none for one that is not there
abbrev pub claim_at : List Slot → ℕ → ℕ
claim_at slots slot = option_map_or (λ s. s.claim) (slice_get slots slot) 0

-- what a change to a slot takes of the free bytes: the new bytes past its claim, and an entry for each slot that is new
abbrev pub need : List Slot → ℕ → ℕ → ℕ
need slots slot bytes = (bytes - claim_at slots slot) + 4 * (slot + 1 - length slots)

-- A slot may have this many bytes, also one that is not there yet.
pub record Fits (v : Version) (slots : List Slot) (slot bytes : ℕ) : Type 0 where
  pub there : slot < slot_limit v
  pub most : bytes ≤ record_limit v
  pub room : need slots slot bytes ≤ free_bytes v slots

-- A new record of this length can go into a slot: it is empty, or the one behind the last, and it fits.
pub record IsCandidate (v : Version) (slots : List Slot) (slot bytes : ℕ) : Type 0 where
  pub there : slot ≤ length slots
  pub empty : image_at_slot slots slot ≡ None
  pub fits : Fits v slots slot bytes

-- the lowest one from a slot on
pub record IsFirstCandidate (v : Version) (slots : List Slot) (from bytes slot : ℕ) : Type 0 where
  pub behind : from ≤ slot
  pub candidate : IsCandidate v slots slot bytes
  pub passed : (other : ℕ) → from ≤ other → other < slot → IsCandidate v slots other bytes → ⊥

-- a slot claims as many bytes as its record has at least, and as any record may have at most
abbrev pub HoldsItsImage : Version → Slot → Type 0
HoldsItsImage v s = (image_len s.image ≤ s.claim) × (s.claim ≤ record_limit v)

-- what is true of each page: its entries and claims are in the page, so that nothing is taken off too little in `free_bytes`
pub record HasRoom (v : Version) (slots : List Slot) : Type 0 where
  pub room : 4 * length slots + claims slots ≤ page_room v
  pub each : All (HoldsItsImage v) slots

-- the claim raised to so many bytes, if it is lower
abbrev pub raised : ℕ → Slot → Slot
raised bytes s = record { image = s.image; claim = max s.claim bytes }

-- the claim lowered to so many bytes, but not below the record
abbrev pub lowered : ℕ → Slot → Slot
lowered bytes s = record { image = s.image; claim = min s.claim (max (image_len s.image) bytes) }

-- what each page keeps: its slots have room, and the sum of their claims is at hand
pub record KeepsClaims (v : Version) (slots : List Slot) (claimed : ℕ) : Type 0 where
  pub sum : claimed ≡ claims slots
  pub room : HasRoom v slots

-- One slot changed: an image is there, and the slot keeps what it claimed, or what the image takes. Every other slot has what it
-- had, which is nothing if it is new; no slot went away, none came past this one, and the free bytes lost what was needed.
pub record ChangesOne (v : Version) (old new : List Slot) (slot : ℕ) (image : Image) : Type 0 where
  pub here : image_at_slot new slot ≡ image
  pub claim : claim_at new slot ≡ max (claim_at old slot) (image_len image)
  pub others : (other : ℕ) → other ≢ slot → (image_at_slot new other ≡ image_at_slot old other) × (claim_at new other ≡ claim_at old other)
  pub stay : length new ≡ max (length old) (slot + 1)
  pub taken : free_bytes v new + need old slot (image_len image) ≡ free_bytes v old
