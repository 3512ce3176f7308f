-- The versions of the formats, and the sizes that each gives.
use Rattle.std.specs.Prelude.{◌≡◌, ℕ, ◌+◌, ◌*◌, ◌-◌, ◌≤◌, ◌==◌, if◌then◌else◌, Option, None, Some, refl}
use Rattle.std.proofs.Common.{arith}
use Rattle.shore_types.specs.declared.versions.Version.{Version}
use Rattle.shore_types.specs.declared.versions.Version.TheVariants.{One, Two}

-- its number on a label
unfoldable pub number_of : Version → ℕ
number_of One = 1
number_of Two = 2

-- the version of a number
unfoldable pub version_of : ℕ → Option Version
version_of n = if n == 1 then Some One else (if n == 2 then Some Two else None)

-- the bytes of a page
unfoldable pub page_bytes : Version → ℕ
page_bytes One = 8192
page_bytes Two = 16384

-- the bytes of a page that its records and its slot table share, behind the header
abbrev pub page_room : Version → ℕ
page_room v = page_bytes v - 24

-- the most bytes of a record
unfoldable pub record_limit : Version → ℕ
record_limit One = 4000
record_limit Two = 12000

-- the most slots of a page
unfoldable pub slot_limit : Version → ℕ
slot_limit One = 2042
slot_limit Two = 4090

-- the most bytes of a global id
unfoldable pub global_limit : Version → ℕ
global_limit One = 64
global_limit Two = 255

-- the fewest bytes of a log device
unfoldable pub least_log : Version → ℕ
least_log One = 135168
least_log Two = 266240

-- where the pages of a volume begin
unfoldable pub pages_begin : Version → ℕ
pages_begin One = 270336
pages_begin Two = 532480

-- ---- what holds of each version

pub version_of-number : (v : Version) → version_of (number_of v) ≡ Some v
unfolding version_of number_of
version_of-number One = refl
version_of-number Two = refl

pub number_of-most : (v : Version) → number_of v ≤ 2
unfolding number_of
number_of-most One = omega arith
number_of-most Two = omega arith

pub page_bytes-most : (v : Version) → page_bytes v ≤ 16384
unfolding page_bytes
page_bytes-most One = omega arith
page_bytes-most Two = omega arith

pub page_bytes-least : (v : Version) → 8192 ≤ page_bytes v
unfolding page_bytes
page_bytes-least One = omega arith
page_bytes-least Two = omega arith

-- the entries of so many slots fill a page behind its header
pub slot_limit-fills : (v : Version) → 24 + 4 * slot_limit v ≡ page_bytes v
unfolding slot_limit page_bytes
slot_limit-fills One = refl
slot_limit-fills Two = refl

pub slot_limit-most : (v : Version) → slot_limit v ≤ 4090
unfolding slot_limit
slot_limit-most One = omega arith
slot_limit-most Two = omega arith

pub record_limit-most : (v : Version) → record_limit v ≤ 12000
unfolding record_limit
record_limit-most One = omega arith
record_limit-most Two = omega arith

-- a page has room for a longest record
pub record_limit-fits : (v : Version) → record_limit v + 4192 ≤ page_bytes v
unfolding record_limit page_bytes
record_limit-fits One = omega arith
record_limit-fits Two = omega arith

pub global_limit-most : (v : Version) → global_limit v ≤ 255
unfolding global_limit
global_limit-most One = omega arith
global_limit-most Two = omega arith

pub least_log-least : (v : Version) → 135168 ≤ least_log v
unfolding least_log
least_log-least One = omega arith
least_log-least Two = omega arith

-- behind the label and the table, 32 images of a page
pub pages_begin-is : (v : Version) → pages_begin v ≡ 8192 + 32 * page_bytes v
unfolding pages_begin page_bytes
pages_begin-is One = refl
pages_begin-is Two = refl

-- what omega and grind are to know of sizes
pub ruleset sizes = (page_bytes-most, page_bytes-least, slot_limit-fills, slot_limit-most, record_limit-most, record_limit-fits)
