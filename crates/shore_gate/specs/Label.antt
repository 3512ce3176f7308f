-- The label at the front of a device (its superblock): its bytes, its limits, and the checks that refuse it.
use Rattle.std.specs.Prelude.{◌≡◌, ℕ, ◌+◌, ◌-◌, ◌*◌, ◌^◌, ◌<◌, ◌≤◌, Bool, true, ◌&&◌, nat_le, ◌==◌, List, [], ◌∷◌, ◌++◌, length, take, drop, replicate, slice_index, sum, All, Result, is_some, unwrap_or}
use Rattle.std.specs.List.{flat_map}
use Rattle.byteorder.specs.Endian.{little_bytes}
use Rattle.shore_disk.specs.Device.{DeviceHistory, size, seen}
use Rattle.shore_types.specs.declared.faults.Device.{Device}
use Rattle.shore_types.specs.declared.faults.Device.TheVariants.{Log, Volume}
use Rattle.shore_types.specs.declared.faults.Fault.{Fault}
use Rattle.shore_types.specs.declared.faults.Fault.TheVariants.{NotFormatted, WrongVersion, Damaged}
use Rattle.shore_types.specs.declared.layout.TheConstants.{LEAST_MAX_LOCKS, MAX_LOG_BYTES, MAX_PAGES, MAX_STORES, MOST_MAX_LOCKS, LENGTH_AT}
use Rattle.shore_types.specs.declared.versions.Version.{Version}
use Rattle.shore_types.specs.declared.versions.Version.TheVariants.{One}
use Rattle.shore_types.specs.Versions.{version_of, number_of, page_bytes, least_log, pages_begin}
use Rattle.shore_gate.specs.declared.gates.TheConstants.{OPEN}
use Rattle.shore_gate.specs.declared.labels.Label.{Label}
use Rattle.shore_gate.specs.declared.labels.TheConstants.{LEAST_DEVICE_BYTES}
use Rattle.shore_gate.specs.Numbers.{number_at, numbers_at, are_zero}
use Rattle.shore_gate.specs.Checks.{Check, check, judged, is_within}

-- the byte that names the device
abbrev pub kind_of : Device → ℕ
kind_of Log = 0x4C
kind_of Volume = 0x56

-- the fields before the pages of the stores
unfoldable pub label_head : Device → Label → List ℕ
label_head device label = (kind_of device ∷ []) ++ little_bytes 2 (number_of label.version) ++ little_bytes 4 (page_bytes label.version) ++ little_bytes 8 label.pair ++ little_bytes 8 label.length
    ++ little_bytes 4 label.max_locks ++ little_bytes 4 (length label.stores)

-- the 511 bytes behind the gate
unfoldable pub label_bytes : Device → Label → List ℕ
label_bytes device label = label_head device label ++ flat_map (little_bytes 4) label.stores ++ replicate (480 - 4 * length label.stores) 0

-- the lengths that a device of a version with so many pages may have
abbrev pub HasLength : Version → Device → ℕ → ℕ → Type 0
HasLength v Log pages bytes = (least_log v ≤ bytes) × (bytes ≤ MAX_LOG_BYTES)
HasLength v Volume pages bytes = bytes ≡ pages_begin v + page_bytes v * pages

-- within the limits, on a device of this length
pub record IsLabel (device : Device) (bytes : ℕ) (label : Label) : Type 0 where
  pub pair : label.pair < 2 ^ 64
  pub of_device : label.length ≡ bytes
  pub as_long : HasLength label.version device (sum label.stores) bytes
  pub least_locks : LEAST_MAX_LOCKS ≤ label.max_locks
  pub most_locks : label.max_locks ≤ MOST_MAX_LOCKS
  pub some_store : 1 ≤ length label.stores
  pub most_stores : length label.stores ≤ MAX_STORES
  pub some_page : All (λ pages. 1 ≤ pages) label.stores
  pub most_pages : sum label.stores ≤ MAX_PAGES

-- such a label is in these bytes, behind an open gate
pub record HoldsLabel (device : Device) (size : ℕ) (bytes : List ℕ) (label : Label) : Type 0 where
  pub limits : IsLabel device size label
  pub text : bytes ≡ OPEN ∷ label_bytes device label

-- whether a label may name this length, before its stores are known
abbrev pub may_be_long : Version → Device → ℕ → Bool
may_be_long v Log bytes = is_within (least_log v) MAX_LOG_BYTES bytes
may_be_long v Volume bytes = true

-- whether a device of so many pages has this length
abbrev pub is_filled : Version → Device → ℕ → ℕ → Bool
is_filled v Log pages bytes = true
is_filled v Volume pages bytes = bytes == pages_begin v + page_bytes v * pages

-- the version that a label names; the first where it names none
abbrev pub version_in : List ℕ → Version
version_in bytes = unwrap_or (version_of (number_at bytes 2 2)) One

-- what tells that it is a label of a version, and of this device
abbrev pub kind_checks : Device → ℕ → List ℕ → List Check
kind_checks device size bytes =
    check (nat_le LEAST_DEVICE_BYTES size) NotFormatted
    ∷ check (slice_index bytes 0 == OPEN) NotFormatted
    ∷ check (slice_index bytes 1 == kind_of device) NotFormatted
    ∷ check (is_some (version_of (number_at bytes 2 2))) WrongVersion
    ∷ []

-- the fields before the pages of the stores, by their offsets
abbrev pub field_checks : Version → Device → ℕ → List ℕ → List Check
field_checks v device size bytes =
    check (number_at bytes 4 4 == page_bytes v) (Damaged device 4)
    ∷ check (number_at bytes LENGTH_AT 8 == size && may_be_long v device size) (Damaged device LENGTH_AT)
    ∷ check (is_within LEAST_MAX_LOCKS MOST_MAX_LOCKS (number_at bytes 24 4)) (Damaged device 24)
    ∷ check (is_within 1 MAX_STORES (number_at bytes 28 4)) (Damaged device 28)
    ∷ []

-- the pages of each store: at least one, and with those before it at most 65,536
abbrev pub store_checks : Device → ℕ → ℕ → List ℕ → List Check
store_checks device offset before [] = []
store_checks device offset before (pages ∷ later) =
    check (nat_le 1 pages && nat_le (before + pages) MAX_PAGES) (Damaged device offset) ∷ store_checks device (offset + 4) (before + pages) later

-- the pages of the stores, as many as the label names
abbrev pub stores_of : List ℕ → List ℕ
stores_of bytes = numbers_at bytes 32 (number_at bytes 28 4)

-- behind so many stores, of so many pages
abbrev pub end_checks : Version → Device → ℕ → List ℕ → ℕ → ℕ → List Check
end_checks v device size bytes count pages =
    check (are_zero (drop (32 + 4 * count) bytes)) (Damaged device (32 + 4 * count))
    ∷ check (is_filled v device pages size) (Damaged device LENGTH_AT)
    ∷ []

-- what the first 512 bytes of a device of this length are refused with
unfoldable pub label_verdict : Device → ℕ → List ℕ → Result Unit Fault
label_verdict device size bytes = judged (kind_checks device size bytes ++ (field_checks (version_in bytes) device size bytes
    ++ (store_checks device 32 0 (stores_of bytes) ++ end_checks (version_in bytes) device size bytes (number_at bytes 28 4) (sum (stores_of bytes)))))

-- the label's bytes as read, and what they are refused with, on a device of this history
abbrev pub HasLabel : Device → DeviceHistory → Label → Type 0
HasLabel device history = HoldsLabel device (size history) (take 512 (seen history))

abbrev pub verdict_of : Device → DeviceHistory → Result Unit Fault
verdict_of device history = label_verdict device (size history) (take 512 (seen history))
