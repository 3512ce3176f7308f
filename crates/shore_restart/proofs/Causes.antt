-- Answers that tell of one device alone, and what they say of the other.
use Rattle.std.proofs.Common.{◌≡◌, ◌≢◌, ◌⊎◌, ◌≤◌, ◌<◌, ℕ, Result, Ok, Err, inl, inr, refl, sym, ap, ◌∙◌, arith}
use Rattle.std.specs.Prelude.{IfErr, IsErrAnd}
use Rattle.shore_types.specs.declared.faults.Fault.{Fault}
use Rattle.shore_types.specs.declared.faults.Fault.TheVariants as fault
use Rattle.shore_disk.specs.Cause.{HasCause}
use Rattle.shore_restart.specs.declared.errors.RestartError.{RestartError}
use Rattle.shore_restart.specs.declared.errors.RestartError.TheVariants.{BadAnchor, BadRecord, Log, Memory, NoRoom, Page}
use Rattle.shore_restart.specs.Errors.{log_answer, volume_answer}

-- what an error says, said otherwise
pub err_to : {T E : Type 0} {P Q : E → Type 0} (r : Result T E) → IfErr r P → ((e : E) → P e → Q e) → IfErr r Q
err_to (Ok u) is to = tt
err_to (Err e) is to = to e is

-- no failure, and none is counted
pub quiet : (old new : ℕ) → new ≡ old → HasCause {T = Unit {0}} (Ok tt) old new
quiet old new same = record { no_lower = omega (arith, same); reported = λ is. absurd cc; unreported = λ other. same }

-- an answer that is no fault of the volume
pub no_page_cause : (A : Type 0) (r : Result A RestartError) (old new : ℕ) → new ≡ old → IfErr r (λ e. (f : Fault) → e ≢ Page f) → HasCause (volume_answer r) old new
no_page_cause A (Ok x) old new same other = quiet old new same
no_page_cause A (Err Memory) old new same other = quiet old new same
no_page_cause A (Err NoRoom) old new same other = quiet old new same
no_page_cause A (Err BadAnchor) old new same other = quiet old new same
no_page_cause A (Err (BadRecord n)) old new same other = quiet old new same
no_page_cause A (Err (Log f)) old new same other = quiet old new same
no_page_cause A (Err (Page f)) old new same other = absurd (other f refl)

-- .. and one that was passed on, and is none of the log device
pub no_log_cause : (A : Type 0) (r : Result A RestartError) (e : RestartError) (old new : ℕ) → new ≡ old → IsErrAnd r (λ x. x ≡ e) → ((f : Fault) → e ≡ Log f → ⊥) → HasCause (log_answer r) old new
no_log_cause A (Ok x) e old new same is other = absurd is
no_log_cause A (Err Memory) e old new same is other = quiet old new same
no_log_cause A (Err NoRoom) e old new same is other = quiet old new same
no_log_cause A (Err BadAnchor) e old new same is other = quiet old new same
no_log_cause A (Err (BadRecord n)) e old new same is other = quiet old new same
no_log_cause A (Err (Page f)) e old new same is other = quiet old new same
no_log_cause A (Err (Log f)) e old new same is other = absurd (other f (sym is))

-- what a fetch may tell of: the device, or a force that it needs
abbrev pub IsDeviceOrForce : ℕ → ℕ → Fault → Type 0
IsDeviceOrForce durable last f = (f ≡ fault.Device) ⊎ ((n : ℕ) × (f ≡ fault.NeedForce n) × (durable < n) × (n ≤ last))

-- .. and the device alone if it is no force
pub device_alone : (r : Result (Unit {0}) RestartError) (durable last : ℕ) → (((n : ℕ) × (r ≡ Err (Page (fault.NeedForce n)))) → ⊥)
    → IfErr r (λ e. (f : Fault) → e ≡ Page f → IsDeviceOrForce durable last f) → IfErr r (λ e. (f : Fault) → e ≡ Page f → f ≡ fault.Device)
device_alone (Ok u) durable last other is = tt
device_alone (Err e) durable last other is = λ f page. elim (is f page) [
  | inl device ↦ device
  | inr force ↦ absurd (other (force.0, ap Err (page ∙ ap Page force.1)))
]

-- .. or if all is durable
pub none_above : (r : Result (Unit {0}) RestartError) (durable last : ℕ) → last ≤ durable → IfErr r (λ e. (f : Fault) → e ≡ Page f → IsDeviceOrForce durable last f)
    → IfErr r (λ e. (f : Fault) → e ≡ Page f → f ≡ fault.Device)
none_above (Ok u) durable last all is = tt
none_above (Err e) durable last all is = λ f page. elim (is f page) [
  | inl device ↦ device
  | inr force ↦ let above = force.2 in let within = force.3 in absurd (omega (arith, all, above, within))
]

-- a page that needs a force is no failure of the device, so it is not what stops a fetch
pub force_runs : (r : Result (Unit {0}) RestartError) (n : ℕ) → r ≡ Err (Page (fault.NeedForce n)) → r ≡ Err (Page fault.Device) → ⊥
force_runs r n is other = let clash = sym is ∙ other in cc
