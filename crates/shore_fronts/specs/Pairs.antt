-- What the fronts of a pair say, and what they are refused with.
use Rattle.std.specs.Prelude.{◌≡◌, ◌⊎◌, Ok, Err, take}
use Rattle.shore_types.specs.declared.faults.Device.TheVariants.{Log, Volume}
use Rattle.shore_types.specs.declared.faults.Fault.{Fault}
use Rattle.shore_types.specs.declared.faults.Fault.TheVariants.{WrongPair}
use Rattle.shore_types.specs.declared.layout.Geometry.{Geometry}
use Rattle.shore_disk.specs.Device.{DeviceHistory, size, seen}
use Rattle.shore_gate.specs.Label.{HoldsLabel, HasLabel, verdict_of}
use Rattle.shore_gate.specs.Anchor as anchors
use Rattle.shore_gate.specs.Anchor.{Counts}
use Rattle.shore_gate.specs.declared.anchors.Anchors.{Anchors}
use Rattle.shore_fronts.specs.declared.fronts.Fronts.{Fronts}
use Rattle.shore_fronts.specs.Fronts.{log_label}
use Rattle.shore_fronts.specs.Volumes.{volume_label}

-- ---- what the fronts say

-- both have labels, of one pair that is laid out like this
abbrev pub ArePaired : Geometry → DeviceHistory → DeviceHistory → Type 0
ArePaired g log volume = HoldsLabel Log (size log) (take 512 (seen log)) (log_label g (size log)) × HasLabel Volume volume (volume_label g)

-- and this anchor of the log counts, in its slot
abbrev pub HaveFronts : Geometry → Anchors → DeviceHistory → DeviceHistory → Type 0
HaveFronts g counting log volume = ArePaired g log volume × Counts (seen log) counting.slot counting.anchor

abbrev pub AreFronts : DeviceHistory → DeviceHistory → Fronts → Type 0
AreFronts log volume fronts = HaveFronts fronts.geometry fronts.anchors log volume × (fronts.of_pages ≡ fronts.geometry)

-- ---- what an open is refused with

-- the labels, by their checks in their order, the log's first; and labels of two pairs
abbrev pub RefusesLabels : DeviceHistory → DeviceHistory → Fault → Type 0
RefusesLabels log volume fault =
    (verdict_of Log log ≡ Err fault)
    ⊎ ((verdict_of Log log ≡ Ok tt) × (verdict_of Volume volume ≡ Err fault))
    ⊎ ((verdict_of Log log ≡ Ok tt) × (verdict_of Volume volume ≡ Ok tt) × (fault ≡ WrongPair) × ((g : Geometry) → ArePaired g log volume → ⊥))

-- .. and behind labels of one pair the log's anchors
abbrev pub RefusesFronts : DeviceHistory → DeviceHistory → Fault → Type 0
RefusesFronts log volume fault =
    RefusesLabels log volume fault
    ⊎ ((g : Geometry) × ArePaired g log volume × (anchors.verdict_of (seen log) ≡ Err fault))
