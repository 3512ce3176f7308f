-- What a volume shows: its pages in place, or behind an open gate those of the double-write area over them.
use Rattle.std.specs.Prelude.{◌≡◌, ◌≢◌, ◌⊎◌, ◌==◌, ℕ, ◌+◌, ◌<◌, ◌≤◌, List, [], ◌∷◌, length, take, drop, All, if◌then◌else◌}
use Rattle.std.specs.Coded.{×_prop, Unit-prop}
use denote.Struct.Props as logic
use Rattle.shore_gate.specs.declared.gates.TheConstants.{OPEN}
use Rattle.shore_types.specs.declared.layout.Geometry.{Geometry}
use Rattle.shore_types.specs.declared.layout.TheConstants.{MAX_BATCH_PAGES}
use Rattle.shore_types.specs.declared.versions.Version.{Version}
use Rattle.shore_types.specs.Versions.{page_bytes}
use Rattle.shore_dwrite.specs.declared.places.TheConstants.{GATE_AT, TABLE_AT, TABLE_BYTES, AREA_AT}
use Rattle.shore_dwrite.specs.Tables.{IsTable}
use Rattle.shore_dwrite.specs.Volumes.{part, page_at, page_count, IsImageOf}

-- they rise, from this number on
abbrev pub RiseFrom : ℕ → List ℕ → Type 0
RiseFrom low [] = Unit {0}
RiseFrom low (k ∷ ks) = (low ≤ k) × RiseFrom (k + 1) ks

pub RiseFrom-prop : (low : ℕ) (ks : List ℕ) → IsProp (RiseFrom low ks)
RiseFrom-prop low [] = Unit-prop
RiseFrom-prop low (k ∷ ks) = ×_prop (Prim.hlevel logic.props) (RiseFrom-prop (k + 1) ks)

-- the bytes begin with a text for each of these pages, one behind another, of which something holds
abbrev pub AreTexts : Version → (ℕ → List ℕ → Type 0) → List ℕ → List ℕ → Type 0
AreTexts v P [] bytes = Unit {0}
AreTexts v P (k ∷ ks) bytes = P k (take (page_bytes v) bytes) × AreTexts v P ks (drop (page_bytes v) bytes)

-- .. a text of each of them
abbrev pub AreImages : Geometry → List ℕ → List ℕ → Type 0
AreImages g = AreTexts g.version (IsImageOf g)

-- pages of the volume, rising, and a text of each: what a batch is while it grows
pub record IsBatchSoFar (g : Geometry) (numbers bytes : List ℕ) : Type 0 where
  pub rise : RiseFrom 0 numbers
  pub on_volume : All (λ k. k < page_count g) numbers
  pub images : AreImages g numbers bytes

-- what a batch may be: 1 to 32 pages of the volume, rising, and a text of each
pub record IsBatch (g : Geometry) (numbers bytes : List ℕ) : Type 0 where
  pub some : 1 ≤ length numbers
  pub most : length numbers ≤ MAX_BATCH_PAGES
  pub rise : RiseFrom 0 numbers
  pub on_volume : All (λ k. k < page_count g) numbers
  pub images : AreImages g numbers bytes

-- numbers that a batch may have, whatever its images are
pub record AreBatchNumbers (g : Geometry) (numbers : List ℕ) : Type 0 where
  pub some : 1 ≤ length numbers
  pub most : length numbers ≤ MAX_BATCH_PAGES
  pub rise : RiseFrom 0 numbers
  pub on_volume : All (λ k. k < page_count g) numbers

-- pages, with the images of some of them laid over
abbrev pub overlaid : Version → List ℕ → List ℕ → (ℕ → List ℕ) → ℕ → List ℕ
overlaid v [] bytes pages k = pages k
overlaid v (n ∷ ns) bytes pages k = if n == k then take (page_bytes v) bytes else overlaid v ns (drop (page_bytes v) bytes) pages k

-- the double-write area has the images of a batch, behind an open gate
pub record HasArea (g : Geometry) (image numbers : List ℕ) : Type 0 where
  pub is_open : part GATE_AT 1 image ≡ OPEN ∷ []
  pub table : IsTable (part TABLE_AT TABLE_BYTES image) numbers
  pub batch : IsBatch g numbers (drop AREA_AT image)

-- these pages are in place
abbrev pub AreInPlace : Geometry → List ℕ → (ℕ → List ℕ) → Type 0
AreInPlace g image pages = (k : ℕ) → k < page_count g → page_at g.version image k ≡ pages k

abbrev pub IsShut : List ℕ → Type 0
IsShut image = part GATE_AT 1 image ≢ OPEN ∷ []

-- The volume shows these pages: a replay leaves them in place.
abbrev pub Shows : Geometry → List ℕ → (ℕ → List ℕ) → Type 0
Shows g image pages =
    (IsShut image × AreInPlace g image pages)
    ⊎ ((numbers : List ℕ) × HasArea g image numbers × ((k : ℕ) → k < page_count g → overlaid g.version numbers (drop AREA_AT image) (page_at g.version image) k ≡ pages k))

-- .. behind these first 4,096 bytes, the label among them
abbrev pub ShowsBehind : Geometry → List ℕ → (ℕ → List ℕ) → List ℕ → Type 0
ShowsBehind g front pages image = (take GATE_AT image ≡ front) × Shows g image pages

-- .. these pages or those
abbrev pub ShowsEither : Geometry → List ℕ → (ℕ → List ℕ) → (ℕ → List ℕ) → List ℕ → Type 0
ShowsEither g front pages others image = ShowsBehind g front pages image ⊎ ShowsBehind g front others image
