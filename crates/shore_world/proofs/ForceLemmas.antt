-- What a force is refused with.
use Rattle.std.proofs.Common.{◌≡◌, ◌≢◌, ◌⊎◌, inl, inr}
use Rattle.shore_types.specs.declared.faults.Fault.{Fault}
use Rattle.shore_types.specs.declared.faults.Fault.TheVariants as fault
use Rattle.shore_model.specs.declared.step.Step.{Step}
use Rattle.shore_model.specs.declared.step.Step.TheVariants.{Refused}

pub refused_is : (step : Step) (f h : Fault) → step ≡ Refused f → step ≡ Refused h → f ≡ h
refused_is step f h one two = cc

pub other_is_no_device : (f : Fault) → (f ≡ fault.Memory) ⊎ (f ≡ fault.LogFull) → f ≢ fault.Device
other_is_no_device f (inl memory) is = absurd cc
other_is_no_device f (inr full) is = absurd cc
