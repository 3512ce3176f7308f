-- How the bytes of a page hold its records, and how the claims go beside them.
use Rattle.std.specs.Prelude.{◌≡◌, ◌≢◌, ◌⊎◌, ℕ, ◌+◌, ◌*◌, ◌<◌, ◌≤◌, List, [], ◌∷◌, length, slice_index_or, None}
use Rattle.std.specs.List.{sum_by}
use Rattle.shore_types.specs.declared.ids.PageId.{PageId}
use Rattle.shore_types.specs.declared.versions.Version.{Version}
use Rattle.shore_types.specs.Images.{Image, image_len}
use Rattle.shore_types.specs.Versions.{page_bytes, slot_limit}
use Rattle.shore_page.specs.Slots.{Slot}
use Rattle.shore_page.specs.Room.{KeepsClaims}
use Rattle.shore_page.specs.Text.{HasHeader, table_of, offset_at, length_at, Covers}
use Rattle.shore_page.specs.Reading.{IsTable, images_in, slot_image}

-- a page without its claims
pub record PageImages : Type 0 where
  pub version : Version
  pub id : PageId
  pub number : ℕ
  pub images : List Image

-- the bytes of all records together
abbrev pub record_bytes : List Image → ℕ
record_bytes images = sum_by image_len images

-- the slot table is one, and no record ends behind a place below it
pub record IsLaidOut (v : Version) (bytes : List ℕ) (slots end : ℕ) : Type 0 where
  pub whole : length bytes ≡ page_bytes v
  pub few : 24 + 4 * slots ≤ page_bytes v
  pub table : IsTable v bytes slots
  pub front : 24 ≤ end
  pub back : end ≤ table_of v slots
  pub ends : (slot : ℕ) → slot < slots → offset_at v bytes slot + length_at v bytes slot ≤ end

-- the slots below one are there, and each of them has a record
pub record AreFull (images : List Image) (full : ℕ) : Type 0 where
  pub there : full ≤ length images
  pub each : (slot : ℕ) → slot < full → slice_index_or images slot None ≢ None

-- what the bytes of a page are at all times: a header, and a slot table with its records, of which the first slots are known to be full
pub record IsPageBytes (v : Version) (bytes : List ℕ) (id : PageId) (number slots end full : ℕ) : Type 0 where
  pub header : HasHeader v bytes id number slots
  pub laid_out : IsLaidOut v bytes slots end
  pub filled : AreFull (images_in v bytes slots) full

-- so many bytes at an offset lie between the header and the slot table, and belong to no other slot's record
pub record IsFreeSpace (v : Version) (bytes : List ℕ) (slots slot offset len : ℕ) : Type 0 where
  pub front : 24 ≤ offset
  pub back : offset + len ≤ table_of v slots
  pub free : (other position : ℕ) → other < slots → other ≢ slot → Covers v bytes other position → (position < offset) ⊎ (offset + len ≤ position)

-- every slot but one has the image that it had
abbrev pub KeepsOthers : Version → List ℕ → List ℕ → ℕ → ℕ → Type 0
KeepsOthers v old new slots slot = (other : ℕ) → other < slots → other ≢ slot → slot_image v new other ≡ slot_image v old other

-- slots by their images and their claims
abbrev pub slots_of : List Image → List ℕ → List Slot
slots_of [] claims = []
slots_of (image ∷ images) [] = []
slots_of (image ∷ images) (claim ∷ claims) = record { image = image; claim = claim } ∷ slots_of images claims

-- a claim for each slot, with their sum at hand, and room for as many as a page may have
pub record HasClaims (v : Version) (images : List Image) (claims : List ℕ) (capacity claimed : ℕ) : Type 0 where
  pub same : length claims ≡ length images
  pub kept : KeepsClaims v (slots_of images claims) claimed
  pub reserved : capacity ≡ slot_limit v
