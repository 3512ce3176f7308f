-- How many syncs a step makes.
use Rattle.std.proofs.Common.{◌≤◌, ◌+◌, Result, Ok, Err, arith}
use Rattle.shore_disk.specs.Device.{DeviceHistory}
use Rattle.shore_dwrite.specs.Syncs.{SyncsOnce, syncs_of}

pub once_at_most : {T E : Type 0} (r : Result T E) (old new : DeviceHistory) → SyncsOnce r old new → syncs_of new ≤ syncs_of old + 1
once_at_most (Ok t) old new is = omega (arith, is)
once_at_most (Err e) old new is = omega (arith, is)
