-- The front of a file that may be made anew: zeros, or a label, whose gate may be open or not.
use Rattle.std.specs.Prelude.{◌≡◌, ◌⊎◌, ◌≤◌, ℕ, ◌+◌, ◌-◌, ◌*◌, Bool, ◌==◌, IsTrue, List, take, drop, slice_index}
use Rattle.std.specs.List.{list_all}
use Rattle.shore_types.specs.declared.faults.Device.{Device}
use Rattle.shore_types.specs.declared.faults.Device.TheVariants.{Log, Volume}
use Rattle.shore_types.specs.declared.versions.Version.{Version}
use Rattle.shore_types.specs.declared.versions.Version.TheVariants.{One, Two}
use Rattle.shore_disk.specs.declared.fronts.TheConstants.{LOG_HEAD_ONE, LOG_HEAD_TWO, MOST_STORES, STORES_AT, VOLUME_HEAD_ONE, VOLUME_HEAD_TWO}

unfoldable pub are_zero : List ℕ → Bool
are_zero bytes = list_all (λ byte. byte == 0) bytes

-- the kind of a device, with a version and the length of its page
abbrev pub label_head_of : Device → Version → List ℕ
label_head_of Log One = LOG_HEAD_ONE
label_head_of Log Two = LOG_HEAD_TWO
label_head_of Volume One = VOLUME_HEAD_ONE
label_head_of Volume Two = VOLUME_HEAD_TWO

abbrev pub IsLabelHead : List ℕ → Type 0
IsLabelHead head = (device : Device) × (version : Version) × (head ≡ label_head_of device version)

-- there may be so many stores, and nothing is behind them
pub record EndsInZeros (stores : ℕ) (front : List ℕ) : Type 0 where
  pub few : stores ≤ MOST_STORES
  pub count : IsTrue (are_zero (take (STORES_AT - 29) (drop 29 front)))
  pub rest : IsTrue (are_zero (drop (STORES_AT + 4 * stores) front))

pub record IsLabelFront (front : List ℕ) : Type 0 where
  pub head : IsLabelHead (take 7 (drop 1 front))
  pub ends : EndsInZeros (slice_index front 28) front

abbrev pub IsFrontOfOurs : List ℕ → Type 0
IsFrontOfOurs front = IsTrue (are_zero front) ⊎ IsLabelFront front
