-- How the script writes stores, pages, records, granules, modes and devices.
use Rattle.std.specs.Prelude.{List, ℕ, ◌++◌, codes}
use Rattle.std.specs.Fmt.{decimal}
use Rattle.shore_types.specs.declared.ids.PageId.{PageId}
use Rattle.shore_types.specs.declared.ids.Rid.{Rid}
use Rattle.shore_types.specs.declared.faults.Device.{Device}
use Rattle.shore_types.specs.declared.faults.Device.TheVariants as device
use Rattle.shore_types.specs.declared.locking.Granule.{Granule}
use Rattle.shore_types.specs.declared.locking.Granule.TheVariants as granule
use Rattle.shore_types.specs.declared.locking.Mode.{Mode}
use Rattle.shore_types.specs.declared.locking.Mode.TheVariants as mode

-- store and page, as `0.1`
abbrev pub page_name : PageId → List ℕ
page_name p = decimal p.store ++ codes "." ++ decimal p.page

-- store, page and slot, as `0.1.2`
abbrev pub rid_name : Rid → List ℕ
rid_name r = page_name r.page ++ codes "." ++ decimal r.slot

-- `v` for the volume
abbrev pub granule_name : Granule → List ℕ
granule_name granule.Volume = codes "v"
granule_name (granule.Store s) = decimal s
granule_name (granule.Page p) = page_name p
granule_name (granule.Record r) = rid_name r

abbrev pub mode_name : Mode → List ℕ
mode_name mode.IS = codes "IS"
mode_name mode.IX = codes "IX"
mode_name mode.SH = codes "SH"
mode_name mode.SIX = codes "SIX"
mode_name mode.EX = codes "EX"
mode_name mode.UD = codes "UD"

abbrev pub device_name : Device → List ℕ
device_name device.Log = codes "log"
device_name device.Volume = codes "volume"
