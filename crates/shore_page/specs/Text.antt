-- Page text: which bytes are the text (the encoding) of a page.
use Rattle.std.specs.Prelude.{◌≡◌, ℕ, ◌+◌, ◌-◌, ◌*◌, ◌<◌, ◌≤◌, List, length, map, slice_get, Some, None}
use Rattle.std.specs.List.{between}
use Rattle.byteorder.specs.Endian.{little_number}
use Rattle.shore_types.specs.declared.ids.PageId.{PageId}
use Rattle.shore_types.specs.declared.versions.Version.{Version}
use Rattle.shore_page.specs.Slots.{Slot, PageState, settled}
use Rattle.shore_types.specs.Images.{Image}
use Rattle.shore_types.specs.Versions.{page_bytes, record_limit}

-- the number of so many bytes at an offset, the lowest byte first
abbrev pub number_at : List ℕ → ℕ → ℕ → ℕ
number_at bytes position count = little_number count (between position (position + count) bytes)

-- where the table of so many slots begins, and where the entry of the last of them is
abbrev pub table_of : Version → ℕ → ℕ
table_of v slots = page_bytes v - 4 * slots

-- a slot's entry: where its record begins, and how long it is
abbrev pub offset_at : Version → List ℕ → ℕ → ℕ
offset_at v bytes slot = number_at bytes (table_of v (slot + 1)) 2

abbrev pub length_at : Version → List ℕ → ℕ → ℕ
length_at v bytes slot = number_at bytes (table_of v (slot + 1) + 2) 2

-- the 24 bytes of the header
pub record HasHeader (v : Version) (bytes : List ℕ) (id : PageId) (number slots : ℕ) : Type 0 where
  pub store : number_at bytes 0 4 ≡ id.store
  pub page : number_at bytes 4 4 ≡ id.page
  pub last : number_at bytes 8 8 ≡ number
  pub count : number_at bytes 16 2 ≡ slots
  pub table : number_at bytes 18 2 ≡ table_of v slots
  pub zero : number_at bytes 20 4 ≡ 0
  pub most : 24 + 4 * slots ≤ page_bytes v

-- a record lies between the header and a slot table that begins at a place
pub record HasRecord (v : Version) (bytes : List ℕ) (table offset : ℕ) (image : List ℕ) : Type 0 where
  pub behind_header : 24 ≤ offset
  pub before_table : offset + length image ≤ table
  pub most : length image ≤ record_limit v
  pub here : between offset (offset + length image) bytes ≡ image

-- what is in a slot: an empty one has zeros for its entry, a full one a record at its offset
abbrev pub HasSlot : Version → List ℕ → ℕ → ℕ → Image → Type 0
HasSlot v bytes table slot None = (offset_at v bytes slot ≡ 0) × (length_at v bytes slot ≡ 0)
HasSlot v bytes table slot (Some image) = HasRecord v bytes table (offset_at v bytes slot) image × (length_at v bytes slot ≡ length image)

-- a byte belongs to the record of a slot
abbrev pub Covers : Version → List ℕ → ℕ → ℕ → Type 0
Covers v bytes slot position = (offset_at v bytes slot ≤ position) × (position < offset_at v bytes slot + length_at v bytes slot)

-- The bytes are the text of a page with these images in its slots. No byte belongs to two records; those that belong to nothing
-- have any value.
pub record IsPageText (v : Version) (bytes : List ℕ) (id : PageId) (number : ℕ) (images : List Image) : Type 0 where
  pub whole : length bytes ≡ page_bytes v
  pub header : HasHeader v bytes id number (length images)
  pub slots : (slot : ℕ) (image : Image) → slice_get images slot ≡ Some image → HasSlot v bytes (table_of v (length images)) slot image
  pub apart : (a b position : ℕ) → a < length images → b < length images → Covers v bytes a position → Covers v bytes b position → a ≡ b

-- what is in the slots, without the claims
abbrev pub images_of : List Slot → List Image
images_of slots = map (λ s. s.image) slots

-- a page whose slots claim what their records take
abbrev pub settled_page : Version → PageId → ℕ → List Image → PageState
settled_page v id number images = record { version = v; id = id; number = number; slots = map settled images }
