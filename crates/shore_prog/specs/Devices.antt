-- The devices of a script.
use Rattle.std.specs.Prelude.{◌≡◌, ◌⊎◌, ℕ, IsTrue, Option, None, Some, true}
use Rattle.shore_disk.specs.AnyDisk.{any_history}
use Rattle.shore_disk.specs.Device.{DeviceHistory, size}
use Rattle.shore_disk.specs.Fuse.{fuse_calls, fuse_inner}
use Rattle.shore_disk.specs.declared.any.AnyDisk.{AnyDisk}
use Rattle.shore_disk.specs.declared.fuse.FuseDisk.{FuseDisk}
use Rattle.shore_disk.specs.AnyDisk.{any_failed_sync}
use Rattle.shore_disk.specs.Places.{place_bytes}
use Rattle.shore_disk.specs.declared.files.FilePlaces.{FilePlaces}
use Rattle.shore_script.specs.declared.fuses.Fuses.{Fuses}
use Rattle.shore_script.specs.declared.settings.Devices.{Devices}
use Rattle.shore_script.specs.declared.settings.Devices.TheVariants.{Files, Memory}
use Rattle.shore_script.specs.declared.settings.FilePair.{FilePair}
use Rattle.shore_types.specs.declared.config.ConfigPlace.TheVariants as place
use Rattle.shore_types.specs.declared.config.Setting.{Setting}
use Rattle.shore_types.specs.declared.config.Setting.TheVariants.{Format, LogPath, VolumePath}
use Rattle.shore_types.specs.declared.faults.Fault.{Fault}
use Rattle.shore_types.specs.declared.faults.Fault.TheVariants.{BadConfig}

abbrev pub history_of : FuseDisk AnyDisk → DeviceHistory
history_of d = any_history (fuse_inner d)

-- a log and a volume, each with as many bytes as it is to have
abbrev pub HaveLengths : ℕ → ℕ → FuseDisk AnyDisk × FuseDisk AnyDisk → Type 0
HaveLengths log_bytes volume_bytes pair = (size (history_of pair.0) ≡ log_bytes) × (size (history_of pair.1) ≡ volume_bytes)

-- these two devices, each behind its fuse
abbrev pub AreFused : Fuses → AnyDisk × AnyDisk → FuseDisk AnyDisk × FuseDisk AnyDisk → Type 0
AreFused fuses disks pair =
    (fuse_inner pair.0 ≡ disks.0) × (fuse_calls pair.0 ≡ fuses.log)
    × (fuse_inner pair.1 ≡ disks.1) × (fuse_calls pair.1 ≡ fuses.volume)

-- a sync of a file of the two has failed
abbrev pub HaveFailedSync : AnyDisk × AnyDisk → Type 0
HaveFailedSync disks = IsTrue (any_failed_sync disks.0) ⊎ IsTrue (any_failed_sync disks.1)

-- there is no byte at either path
abbrev pub AreEmpty : FilePlaces → Type 0
AreEmpty places = (place_bytes places.log ≡ 0) × (place_bytes places.volume ≡ 0)

abbrev pub bad_setting : Setting → Fault
bad_setting setting = BadConfig (place.Setting setting)

-- What is refused so that no file is lost: files that hold bytes, if the settings do not say that they may go; or a file that is no device, if they say so.
abbrev pub WouldLoseFiles : FilePair → Fault → Type 0
WouldLoseFiles files fault = ((fault ≡ bad_setting Format) × (files.is_made_anew ≡ None))
    ⊎ ((fault ≡ bad_setting LogPath) ⊎ (fault ≡ bad_setting VolumePath))

abbrev pub WouldLose : Devices → Fault → Type 0
WouldLose Memory fault = ⊥
WouldLose (Files files) fault = WouldLoseFiles files fault
