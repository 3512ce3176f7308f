-- A call that read the device, and judged what it read.
use Rattle.std.proofs.Common.{◌≡◌, ℕ, Result, Err, arith}
use Rattle.shore_disk.specs.Cause.{HasCause}
use Rattle.shore_types.specs.declared.faults.Fault.{Fault}
use Rattle.shore_types.specs.declared.faults.Fault.TheVariants.{Device}

-- no call of the device failed
pub no_failure : {T : Type 0} (result : Result T Fault) (old new : ℕ) → (result ≡ Err Device → ⊥) → new ≡ old → HasCause result old new
no_failure result old new other same = record { no_lower = omega arith; reported = λ e. absurd (other e); unreported = λ e. same }
