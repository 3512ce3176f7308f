-- When a call reports that a device failed.
use Rattle.std.specs.Prelude.{◌≡◌, ◌≢◌, ◌≤◌, ℕ, Result, Err}
use Rattle.shore_types.specs.declared.faults.Fault.{Fault}
use Rattle.shore_types.specs.declared.faults.Fault.TheVariants.{Device}
use Rattle.shore_disk.specs.Device.{Rose}

-- The count of a device's failures never falls, rose if `Device` is reported, and is the same if it isn't.
pub record HasCause {T : Type 0} (result : Result T Fault) (old new : ℕ) : Type 0 where
  pub no_lower : old ≤ new
  pub reported : result ≡ Err Device → Rose old new
  pub unreported : result ≢ Err Device → new ≡ old
