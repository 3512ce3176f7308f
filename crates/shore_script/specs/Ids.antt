-- How the script writes numbers, ids and granules: as they are printed, if they fit their fields.
use Rattle.std.specs.Prelude.{◌≡◌, ◌^◌, ◌<◌, ◌≤◌, ℕ, List, codes}
use Rattle.std.specs.Fmt.{decimal}
use Rattle.shore_script.specs.declared.words.TheConstants.{MOST_SESSIONS}
use Rattle.shore_types.specs.Names.{page_name, rid_name}
use Rattle.shore_types.specs.declared.ids.PageId.{PageId}
use Rattle.shore_types.specs.declared.ids.Rid.{Rid}
use Rattle.shore_types.specs.declared.locking.Granule.{Granule}
use Rattle.shore_types.specs.declared.locking.Granule.TheVariants as granule

-- decimal digits of a number below the limit, with no sign and no leading zero
abbrev pub IsNumber : ℕ → List ℕ → ℕ → Type 0
IsNumber limit word number = (word ≡ decimal number) × (number < limit)

-- .. of a number from 1 to the most
abbrev pub IsCount : ℕ → List ℕ → ℕ → Type 0
IsCount most word number = (word ≡ decimal number) × (1 ≤ number) × (number ≤ most)

abbrev pub IsSession : List ℕ → ℕ → Type 0
IsSession word session = IsCount MOST_SESSIONS word session

-- as `0.1`
abbrev pub IsPage : List ℕ → PageId → Type 0
IsPage word page = (word ≡ page_name page) × (page.store < 2 ^ 32) × (page.page < 2 ^ 32)

-- as `0.1.2`
abbrev pub IsRecord : List ℕ → Rid → Type 0
IsRecord word id = (word ≡ rid_name id) × (id.page.store < 2 ^ 32) × (id.page.page < 2 ^ 32) × (id.slot < 2 ^ 16)

-- as `v`, `0`, `0.1` or `0.1.2`
abbrev pub IsGranule : List ℕ → Granule → Type 0
IsGranule word granule.Volume = word ≡ codes "v"
IsGranule word (granule.Store store) = IsNumber (2 ^ 32) word store
IsGranule word (granule.Page page) = IsPage word page
IsGranule word (granule.Record id) = IsRecord word id
