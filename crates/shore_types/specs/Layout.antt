-- What lies inside a geometry, and which geometries a volume may have.
use Rattle.std.specs.Prelude.{ℕ, ◌<◌, ◌≤◌, IsSomeAnd, slice_get, length, sum, All}
use Rattle.shore_types.specs.declared.layout.Geometry.{Geometry}
use Rattle.shore_types.specs.declared.ids.PageId.{PageId}
use Rattle.shore_types.specs.declared.ids.Rid.{Rid}
use Rattle.shore_types.specs.declared.locking.Granule.{Granule}
use Rattle.shore_types.specs.declared.locking.Granule.TheVariants.{Volume, Store, Page, Record}
use Rattle.shore_types.specs.Versions.{slot_limit}
use Rattle.shore_types.specs.declared.layout.TheConstants.{MAX_STORES, MAX_PAGES, LEAST_MAX_LOCKS, MOST_MAX_LOCKS}

-- the store is there
abbrev pub HasStore : Geometry → ℕ → Type 0
HasStore g s = s < length g.stores

-- the store is there, and has the page
abbrev pub HasPage : Geometry → PageId → Type 0
HasPage g p = IsSomeAnd (slice_get g.stores p.store) (λ pages. p.page < pages)

-- the page is there, and may have the slot
abbrev pub HasSlot : Geometry → Rid → Type 0
HasSlot g r = HasPage g r.page × (r.slot < slot_limit g.version)

-- the granule is there
abbrev pub HasGranule : Geometry → Granule → Type 0
HasGranule g Volume = Unit {0}
HasGranule g (Store s) = HasStore g s
HasGranule g (Page p) = HasPage g p
HasGranule g (Record r) = HasSlot g r

-- one store or more, and not too many; each has a page, and all together have not too many
pub record StoresInLimits (g : Geometry) : Type 0 where
  pub some : 1 ≤ length g.stores
  pub count : length g.stores ≤ MAX_STORES
  pub each : All (λ pages. 1 ≤ pages) g.stores
  pub together : sum g.stores ≤ MAX_PAGES

abbrev pub LocksInLimits : Geometry → Type 0
LocksInLimits g = (LEAST_MAX_LOCKS ≤ g.max_locks) × (g.max_locks ≤ MOST_MAX_LOCKS)

-- what a volume may be made for
abbrev pub IsInLimits : Geometry → Type 0
IsInLimits g = StoresInLimits g × LocksInLimits g
