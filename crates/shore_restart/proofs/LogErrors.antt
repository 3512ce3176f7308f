-- The errors of a force, and which faults they come of.
use Rattle.std.proofs.Common.{◌≡◌, ◌≢◌, ℕ, Result, Err, inl, inr, sym, subst, ◌∙◌}
use Rattle.std.specs.Prelude.{IsErrAnd}
use Rattle.shore_types.specs.declared.faults.Fault.{Fault}
use Rattle.shore_types.specs.declared.faults.Fault.TheVariants as fault
use Rattle.shore_disk.specs.Cause.{HasCause}
use Rattle.shore_restart.specs.declared.errors.RestartError.{RestartError}
use Rattle.shore_restart.specs.declared.errors.RestartError.TheVariants.{BadAnchor, BadRecord, Log, Memory, NoRoom, Page}
use Rattle.shore_restart.specs.Errors.{IsLogError, log_answer}
use Rattle.shore_restart.proofs.PageErrors.{err_with}

one_log : (f h : Fault) → Log f ≡ Log h → f ≡ h
one_log f h is = cc

no_memory_log : (f : Fault) → Memory ≡ Log f → ⊥
no_memory_log f is = cc

-- the fault that an error of the log device is of
pub log_is : (f h : Fault) (error : RestartError) → IsLogError f error → error ≡ Log h → (f ≡ h) × (f ≢ fault.Memory)
log_is f h error (inl memory) is = absurd (no_memory_log h (sym memory.1 ∙ is))
log_is f h error (inr other) is = (one_log f h (sym other.1 ∙ is), other.0)

-- an error that was passed on, with what it tells of the log device, behind calls that were not refused
pub passed_log_cause : (A B : Type 0) (r : Result A RestartError) (error : RestartError) (old between new : ℕ) → between ≡ old → IsErrAnd r (λ e. e ≡ error) → HasCause (log_answer {A = B} (Err error)) between new
    → HasCause (log_answer {A = A} r) old new
passed_log_cause A B r error old between new same is cause = subst (λ (result : Result A RestartError). HasCause (log_answer {A = A} result) old new) (sym (err_with r error is))
    (subst (λ (n : ℕ). HasCause (log_answer {A = A} (Err error)) n new) same (same_answer error cause))
  where
    same_answer : (e : RestartError) → HasCause (log_answer {A = B} (Err e)) between new → HasCause (log_answer {A = A} (Err e)) between new
    same_answer Memory cause = cause
    same_answer NoRoom cause = cause
    same_answer BadAnchor cause = cause
    same_answer (BadRecord n) cause = cause
    same_answer (Page f) cause = cause
    same_answer (Log f) cause = cause
