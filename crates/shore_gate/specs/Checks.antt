-- Checks in their order, and the faults of a call that reads a device.
use Rattle.std.specs.Prelude.{◌≡◌, ◌⊎◌, Bool, ℕ, ◌&&◌, nat_le, List, [], ◌∷◌, Result, Ok, Err, if◌then◌else◌}
use Rattle.shore_types.specs.declared.faults.Fault.{Fault}
use Rattle.shore_types.specs.declared.faults.Fault.TheVariants.{Device, Memory}

-- a check, and the fault if it is not passed
pub record Check : Type 0 where
  pub passes : Bool
  pub fault : Fault

abbrev pub check : Bool → Fault → Check
check passes fault = record { passes = passes; fault = fault }

-- the fault of the first check that is not passed
abbrev pub judged : List Check → Result Unit Fault
judged [] = Ok tt
judged (first ∷ later) = if first.passes then judged later else Err first.fault

abbrev pub is_within : ℕ → ℕ → ℕ → Bool
is_within least most number = nat_le least number && nat_le number most

-- a fault that no byte of the device is the cause of
abbrev pub IsFromOutside : Fault → Type 0
IsFromOutside fault = (fault ≡ Device) ⊎ (fault ≡ Memory)
