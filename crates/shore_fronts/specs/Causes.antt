-- When a call on two devices reports that one of them failed.
use Rattle.std.specs.Prelude.{◌≡◌, ◌≢◌, ◌⊎◌, ◌≤◌, ℕ, Result, Err}
use Rattle.shore_types.specs.declared.faults.Fault.{Fault}
use Rattle.shore_types.specs.declared.faults.Fault.TheVariants.{Device}
use Rattle.shore_disk.specs.Device.{Rose}

-- No count of failures falls. One of them rose if `Device` is reported, and both are the same if it isn't.
pub record HasCauseOfPair {T : Type 0} (result : Result T Fault) (log log_now volume volume_now : ℕ) : Type 0 where
  pub log_no_lower : log ≤ log_now
  pub volume_no_lower : volume ≤ volume_now
  pub reported : result ≡ Err Device → Rose log log_now ⊎ Rose volume volume_now
  pub unreported : result ≢ Err Device → (log_now ≡ log) × (volume_now ≡ volume)
