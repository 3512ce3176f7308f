-- In which parts two images of a volume may differ, and what is new in these parts.
use Rattle.std.specs.Prelude.{◌≡◌, ℕ, ◌*◌, List, length, take, drop, Contains, slice_get, Some}
use Rattle.shore_types.specs.declared.versions.Version.{Version}
use Rattle.shore_types.specs.Versions.{page_bytes, pages_begin}
use Rattle.shore_dwrite.specs.declared.places.TheConstants.{TABLE_AT, TABLE_BYTES, AREA_AT}
use Rattle.shore_dwrite.specs.Tables.{IsTable}
use Rattle.shore_dwrite.specs.Volumes.{part, page_at}

-- in the double-write area alone, its gate left out
pub record DiffersInArea (v : Version) (base image : List ℕ) : Type 0 where
  pub len : length image ≡ length base
  pub front : take TABLE_AT image ≡ take TABLE_AT base
  pub pages : drop (pages_begin v) image ≡ drop (pages_begin v) base

-- .. and there it has the table and the texts of these pages
pub record HasImages (v : Version) (base image numbers bytes : List ℕ) : Type 0 where
  pub differs : DiffersInArea v base image
  pub table : IsTable (part TABLE_AT TABLE_BYTES image) numbers
  pub texts : part AREA_AT (length bytes) image ≡ bytes

-- in these pages alone
pub record DiffersInPages (v : Version) (numbers base image : List ℕ) : Type 0 where
  pub len : length image ≡ length base
  pub front : take (pages_begin v) image ≡ take (pages_begin v) base
  pub others : (k : ℕ) → (Contains numbers k → ⊥) → page_at v image k ≡ page_at v base k

-- .. and there it has these texts
pub record HasPages (v : Version) (base image numbers texts : List ℕ) : Type 0 where
  pub differs : DiffersInPages v numbers base image
  pub each : (i k : ℕ) → slice_get numbers i ≡ Some k → page_at v image k ≡ part (page_bytes v * i) (page_bytes v) texts
