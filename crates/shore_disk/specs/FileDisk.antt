-- What a device over a file shows of itself.
use Rattle.std.specs.Prelude.{◌≡◌, ℕ, Bool, false, [], replicate}
use Rattle.shore_disk.specs.Device.{DeviceHistory}
use Rattle.shore_disk.specs.declared.file.FileDisk.{FileDisk}

-- how many of its calls have failed, up to 2^64 - 1
abbrev pub failures_of : FileDisk → ℕ
failures_of d = d.failures

-- its length; of its bytes nothing is told
abbrev pub file_history : FileDisk → DeviceHistory
file_history d = record { first = replicate d.len 0; calls = [] }

-- a sync of it has failed, after which no call is made
abbrev pub has_failed_sync : FileDisk → Bool
has_failed_sync d = d.sync_failed

-- as it is once it was opened: no call has failed
pub record IsFresh (d : FileDisk) : Type 0 where
  pub failures : failures_of d ≡ 0
  pub sync : has_failed_sync d ≡ false
