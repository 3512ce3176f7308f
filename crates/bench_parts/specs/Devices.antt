-- What a device that counts its writes shows of itself.
use Rattle.std.specs.Prelude.{ℕ}
use Rattle.shore_disk.specs.Device.{DeviceHistory}
use Rattle.shore_disk.specs.AnyDisk.{any_failures, any_history}
use Rattle.bench_parts.specs.declared.counted.CountDisk.{CountDisk}

-- how many of its calls have failed, up to 2^64 - 1
abbrev pub counted_faults : CountDisk → ℕ
counted_faults d = any_failures d.disk

-- the history of the device in it; a `CountDisk` is never claimed honest, so of this the length alone is told
abbrev pub counted_history : CountDisk → DeviceHistory
counted_history d = any_history d.disk
