-- The checks of a double-write area behind an open gate, in their order, and where the first fails.
use Rattle.std.specs.Prelude.{◌≡◌, ◌⊎◌, ◌==◌, ◌&&◌, ℕ, zero, suc, ◌+◌, ◌-◌, ◌*◌, ◌<◌, nat_le, nat_lt, All, List, [], ◌∷◌, length, slice_get, Some, take, drop, Result, Ok, Err, if◌then◌else◌}
use Rattle.std.specs.Global.{Vec}
use Rattle.shore_gate.specs.Checks.{is_within}
use Rattle.shore_types.specs.declared.faults.Device.TheVariants.{Volume}
use Rattle.shore_types.specs.declared.faults.Fault.{Fault}
use Rattle.shore_types.specs.declared.faults.Fault.TheVariants.{Damaged}
use Rattle.shore_types.specs.declared.layout.Geometry.{Geometry}
use Rattle.shore_types.specs.declared.layout.TheConstants.{MAX_BATCH_PAGES}
use Rattle.shore_types.specs.Versions.{page_bytes}
use Rattle.shore_dwrite.specs.declared.places.TheConstants.{TABLE_AT, TABLE_BYTES, AREA_AT}
use Rattle.shore_dwrite.specs.Shown.{RiseFrom}
use Rattle.shore_dwrite.specs.Tables.{IsTable, cell}
use Rattle.shore_dwrite.specs.Volumes.{IsImageOf, page_count, part}

-- these are the numbers of the first so many entries, and they rise on the volume
pub record HasEntries (table : List ℕ) (pages count : ℕ) (numbers : Vec ℕ) : Type 0 where
  pub length_is : length numbers.items ≡ count
  pub entries : (i k : ℕ) → slice_get numbers.items i ≡ Some k → cell (i + 1) table ≡ k
  pub rise : RiseFrom 0 numbers.items
  pub on_volume : All (λ k. k < pages) numbers.items

-- what so many entries of pages are refused with, from an index on, and a lowest number: each rises and is on the volume
abbrev pub page_verdict : ℕ → List ℕ → ℕ → ℕ → ℕ → Result Unit Fault
page_verdict pages table i low zero = Ok tt
page_verdict pages table i low (suc left) = if nat_le low (cell (i + 1) table) && nat_lt (cell (i + 1) table) pages
    then page_verdict pages table (i + 1) (cell (i + 1) table + 1) left
    else Err (Damaged Volume (TABLE_AT + 4 * (i + 1)))

-- .. and so many entries that no page uses: each is zero
abbrev pub zero_verdict : List ℕ → ℕ → ℕ → Result Unit Fault
zero_verdict table i zero = Ok tt
zero_verdict table i (suc left) = if cell (i + 1) table == 0
    then zero_verdict table (i + 1) left
    else Err (Damaged Volume (TABLE_AT + 4 * (i + 1)))

-- one verdict behind another that passes
abbrev pub and_then : Result Unit Fault → Result Unit Fault → Result Unit Fault
and_then (Ok passed) later = later
and_then (Err fault) later = Err fault

-- what the table of a volume of so many pages is refused with: its count first, then the entries in their order
unfoldable pub table_verdict : ℕ → List ℕ → Result Unit Fault
table_verdict pages table = if is_within 1 MAX_BATCH_PAGES (cell 0 table)
    then and_then (page_verdict pages table 0 0 (cell 0 table)) (zero_verdict table (cell 0 table) (MAX_BATCH_PAGES - cell 0 table))
    else Err (Damaged Volume TABLE_AT)

-- of these pages' images the one at an index is the first that is none
abbrev pub IsFirstBad : Geometry → List ℕ → List ℕ → ℕ → Type 0
IsFirstBad g [] bytes i = ⊥
IsFirstBad g (k ∷ ks) bytes zero = IsImageOf g k (take (page_bytes g.version) bytes) → ⊥
IsFirstBad g (k ∷ ks) bytes (suc i) = IsImageOf g k (take (page_bytes g.version) bytes) × IsFirstBad g ks (drop (page_bytes g.version) bytes) i

-- the area of an image of a volume is refused with this
abbrev pub RefusesArea : Geometry → List ℕ → Fault → Type 0
RefusesArea g image fault =
    (table_verdict (page_count g) (part TABLE_AT TABLE_BYTES image) ≡ Err fault)
    ⊎ ((numbers : List ℕ) × (i : ℕ) × IsTable (part TABLE_AT TABLE_BYTES image) numbers × (table_verdict (page_count g) (part TABLE_AT TABLE_BYTES image) ≡ Ok tt)
    × IsFirstBad g numbers (drop AREA_AT image) i × (fault ≡ Damaged Volume (AREA_AT + page_bytes g.version * i)))

-- what the area of an image of a volume holds: the table of these pages, and their texts
pub record HasRead (image numbers texts : List ℕ) : Type 0 where
  pub table : IsTable (part TABLE_AT TABLE_BYTES image) numbers
  pub texts_are : part AREA_AT (length texts) image ≡ texts
