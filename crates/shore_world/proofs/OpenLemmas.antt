-- What an open is refused with, and who failed.
use Rattle.std.proofs.Common.{◌≡◌, ◌≢◌, ◌⊎◌, inl, inr, ℕ, Result, Ok, Err, refl, sym, ◌∙◌, ap, subst, arith}
use Rattle.shore_types.specs.declared.faults.Fault.{Fault}
use Rattle.shore_types.specs.declared.faults.Fault.TheVariants as fault
use Rattle.shore_disk.specs.Device.{Rose}
use Rattle.shore_disk.specs.Cause.{HasCause}
use Rattle.shore_gate.specs.Checks.{IsFromOutside}
use Rattle.shore_fronts.specs.Causes.{HasCauseOfPair}
use Rattle.shore_restart.specs.Errors.{log_answer, volume_answer}
use Rattle.shore_restart.specs.declared.errors.RestartError.{RestartError}
use Rattle.shore_restart.specs.declared.errors.RestartError.TheVariants.{BadAnchor, BadRecord, Log, Memory, NoRoom, Page}

pub same_number : (n m : ℕ) → BadRecord n ≡ BadRecord m → n ≡ m
same_number n m is = cc

-- a device's failure, or another fault
pub is_device : (f : Fault) → (f ≡ fault.Device) ⊎ (f ≢ fault.Device)
is_device fault.Device = inl refl
is_device _ = inr (λ is. absurd cc)

pub outside_or_not : (f : Fault) → IsFromOutside f ⊎ (IsFromOutside f → ⊥)
outside_or_not fault.Device = inl (inl refl)
outside_or_not fault.Memory = inl (inr refl)
outside_or_not _ = inr (λ is. elim is [ inl device ↦ absurd cc | inr memory ↦ absurd cc ])

-- ---- who failed

ok_is_no_error : {A B : Type 0} (x : A) (e : B) → Ok x ≡ Err e → ⊥
ok_is_no_error x e is = absurd cc

same_fault : {T : Type 0} (r : Result T Fault) (e f : Fault) → r ≡ Err e → r ≡ Err f → e ≡ f
same_fault r e f one two = cc

-- a call that answered has no failure to tell of
pub still_after : {T : Type 0} (r : Result T Fault) (x : T) (a b : ℕ) → r ≡ Ok x → HasCause r a b → b ≡ a
still_after r x a b is cause = cause.unreported (λ failed. ok_is_no_error x fault.Device (sym is ∙ failed))

pub pair_still_after : {T : Type 0} (r : Result T Fault) (x : T) (a b v w : ℕ) → r ≡ Ok x → HasCauseOfPair r a b v w → (b ≡ a) × (w ≡ v)
pair_still_after r x a b v w is cause = cause.unreported (λ failed. ok_is_no_error x fault.Device (sym is ∙ failed))

-- a failure of the log device, behind calls that answered
pub log_failed : {T U : Type 0} (f : Fault) (a b c v w : ℕ) → b ≡ a → HasCause {T = U} (Err f) b c → w ≡ v → HasCauseOfPair {T = T} (Err f) a c v w
log_failed f a b c v w same cause still = record {
  log_no_lower = omega (arith, same, cause.no_lower);
  volume_no_lower = omega (arith, still);
  reported = λ failed. inl (subst (λ n. Rose n c) same (cause.reported (ap Err (same_fault _ f fault.Device refl failed))));
  unreported = λ other. (cause.unreported (λ failed. other (ap Err (same_fault _ f fault.Device refl failed))) ∙ same, still);
}

-- another fault, and the device was not called
pub no_device : (f : Fault) (n : ℕ) → f ≢ fault.Device → HasCause {T = Unit {0}} (Err f) n n
no_device f n isnt = record { no_lower = omega arith; reported = λ failed. absurd (isnt (same_fault _ f fault.Device refl failed)); unreported = λ other. refl }

-- .. and one of the volume
pub volume_failed : {T U : Type 0} (f : Fault) (a b v w u : ℕ) → b ≡ a → w ≡ v → HasCause {T = U} (Err f) w u → HasCauseOfPair {T = T} (Err f) a b v u
volume_failed f a b v w u still same cause = record {
  log_no_lower = omega (arith, still);
  volume_no_lower = omega (arith, same, cause.no_lower);
  reported = λ failed. inr (subst (λ n. Rose n u) same (cause.reported (ap Err (same_fault _ f fault.Device refl failed))));
  unreported = λ other. (still, cause.unreported (λ failed. other (ap Err (same_fault _ f fault.Device refl failed))) ∙ same);
}

-- a restart's error as it is told, by what it says of both devices
module _ (T U : Type 0) (f : Fault) (a b c v w : ℕ) where
  -- one that is of neither: what it is refused with tells of the log device alone
  of_neither : (volume log : Result (Unit {0}) Fault) → volume ≡ Ok tt → log ≡ Ok tt → HasCause volume v w → HasCause log a b → HasCause {T = Unit {0}} (Err f) b c → HasCauseOfPair {T = U} (Err f) a c v w
  of_neither volume log quiet silent of_volume of_log cause = log_failed f a b c v w (still_after log tt a b silent of_log) cause (still_after volume tt v w quiet of_volume)

  pub told_of : (e : RestartError) → HasCause (volume_answer {A = T} (Err e)) v w → HasCause (log_answer {A = T} (Err e)) a b
      → ((h : Fault) → e ≡ Page h → (f ≡ h) × (c ≡ b)) → ((h : Fault) → e ≡ Log h → (f ≡ h) × (c ≡ b))
      → (((h : Fault) → e ≢ Page h) → ((h : Fault) → e ≢ Log h) → HasCause {T = Unit {0}} (Err f) b c) → HasCauseOfPair {T = U} (Err f) a c v w
  told_of Memory volume log page force other = of_neither (Ok tt) (Ok tt) refl refl volume log (other (λ h is. absurd cc) (λ h is. absurd cc))
  told_of NoRoom volume log page force other = of_neither (Ok tt) (Ok tt) refl refl volume log (other (λ h is. absurd cc) (λ h is. absurd cc))
  told_of BadAnchor volume log page force other = of_neither (Ok tt) (Ok tt) refl refl volume log (other (λ h is. absurd cc) (λ h is. absurd cc))
  told_of (BadRecord n) volume log page force other = of_neither (Ok tt) (Ok tt) refl refl volume log (other (λ h is. absurd cc) (λ h is. absurd cc))
  told_of (Page h) volume log page force other =
      let is = page h refl in
      volume_failed f a c v v w (is.1 ∙ still_after (Ok tt) tt a b refl log) refl (subst (λ (x : Fault). HasCause {T = Unit {0}} (Err x) v w) (sym is.0) volume)
  told_of (Log h) volume log page force other =
      let is = force h refl in
      log_failed f a a c v w refl (subst (λ n. HasCause {T = Unit {0}} (Err f) a n) (sym is.1) (subst (λ (x : Fault). HasCause {T = Unit {0}} (Err x) a b) (sym is.0) log))
      (still_after (Ok tt) tt v w refl volume)
