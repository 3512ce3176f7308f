-- What a device in memory shows of itself.
use Rattle.std.specs.Prelude.{ℕ}
use Rattle.shore_disk.specs.Device.{DeviceHistory}
use Rattle.shore_disk.specs.Memory.{history_in}
use Rattle.shore_disk.specs.declared.memory.MemDisk.{MemDisk}

-- what it held at first, and its calls since
abbrev pub history_of : MemDisk → DeviceHistory
history_of d = history_in d.past.items

-- how many of its calls have failed, up to 2^64 - 1
abbrev pub failures_of : MemDisk → ℕ
failures_of d = d.failures
