-- The barrier of an open: both devices are synced before anything is read of them, so that all that is read stays whatever a crash may leave.
use Rattle.shore_disk.specs.Device.{DeviceHistory, LeavesOnly, Stands, may_leave, seen}

-- until its barrier has answered, a device leaves in a crash what it could have left before the call, and nothing else
abbrev pub IsBeforeBarrier : DeviceHistory → DeviceHistory → Type 0
IsBeforeBarrier old new = LeavesOnly old new (may_leave old)

-- behind it, it leaves what is read, and nothing else
pub record IsBehindBarrier (old new : DeviceHistory) : Type 0 where
  pub leaves : LeavesOnly old new (may_leave old)
  pub stands : Stands new (seen old)
