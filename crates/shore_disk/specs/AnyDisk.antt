-- A device in memory or over a file, seen as the one that it is.
use Rattle.std.specs.Prelude.{ℕ, Bool, true, false}
use Rattle.shore_disk.specs.Device.{DeviceHistory}
use Rattle.shore_disk.specs.FileDisk.{file_history}
use Rattle.shore_disk.specs.FileDisk as file
use Rattle.shore_disk.specs.MemDisk as memory
use Rattle.shore_disk.specs.declared.any.AnyDisk.{AnyDisk}
use Rattle.shore_disk.specs.declared.any.AnyDisk.TheVariants as any

-- what is said of its bytes holds if it is in memory
abbrev pub is_in_memory : AnyDisk → Bool
is_in_memory (any.Memory d) = true
is_in_memory (any.File d) = false

abbrev pub any_history : AnyDisk → DeviceHistory
any_history (any.Memory d) = memory.history_of d
any_history (any.File d) = file_history d

abbrev pub any_failures : AnyDisk → ℕ
any_failures (any.Memory d) = memory.failures_of d
any_failures (any.File d) = file.failures_of d

-- a sync of its file has failed
abbrev pub any_failed_sync : AnyDisk → Bool
any_failed_sync (any.Memory d) = false
any_failed_sync (any.File d) = file.has_failed_sync d
