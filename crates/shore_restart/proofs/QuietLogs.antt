-- The log device of a restart, whatever the pages hold: what calls leave of it.
use Rattle.std.proofs.Common.{◌≡◌, ◌≤◌, ◌++◌, ℕ, List, Result, Ok, Err, inl, inr, sym, ap, subst, ◌∙◌, length, length-append, take, arith}
use Rattle.std.specs.Prelude.{IfErr, IsErrAnd, None}
use Rattle.shore_types.specs.declared.faults.Fault.{Fault}
use Rattle.shore_types.specs.declared.faults.Fault.TheVariants as fault
use Rattle.shore_disk.specs.declared.device.Disk.{Ghosts}
use Rattle.shore_frames.proofs.LoggedLemmas.{has_longest}
use Rattle.shore_frames.specs.Frames.{IsLongest}
use Rattle.shore_frames.specs.declared.reading.FrameAt.{FrameAt}
use Rattle.shore_log.specs.Settled.{IsSettledFrom, KeepsFrames, stable, waiting}
use Rattle.shore_log.specs.declared.device.LogDev.{LogDev}
use Rattle.shore_restart.specs.declared.errors.RestartError.{RestartError}
use Rattle.shore_restart.specs.declared.errors.RestartError.TheVariants.{Log}
use Rattle.shore_restart.specs.Errors.{IsLogError}
use Rattle.shore_restart.specs.Quiet.{IsQuiet, StaysQuiet}

-- the error is of no log device
abbrev pub IsNoLog : RestartError → Type 0
IsNoLog error = (f : Fault) → error ≡ Log f → ⊥

one_error : {A : Type 0} (x y : RestartError) → ◌≡◌ {A = Result A RestartError} (Err x) (Err y) → x ≡ y
one_error x y is = cc

no_err : {A : Type 0} (x : A) (e : RestartError) → ◌≡◌ {A = Result A RestartError} (Ok x) (Err e) → ⊥
no_err x e is = cc

no_memory : (f : Fault) → f ≡ fault.Device → f ≡ fault.Memory → ⊥
no_memory f is memory = let clash = sym is ∙ memory in cc

pub log_device_error : (f : Fault) (error : RestartError) → IsLogError f error → f ≡ fault.Device → error ≡ Log fault.Device
log_device_error f error (inl memory) is = absurd (no_memory f is memory.0)
log_device_error f error (inr other) is = other.1 ∙ ap Log is

module _ {L : Type 0} {G : Ghosts L} (log_front : List ℕ) where
  -- ---- one call

  -- a device that is not called
  pub quiet_beside : {A : Type 0} (old new : LogDev L G) (r : Result A RestartError) → IfErr r IsNoLog → IsQuiet log_front new → length (stable old) ≤ length (stable new) → StaysQuiet r log_front old new
  quiet_beside old new (Ok x) none quiet more = record { named = tt; quiet = inr (quiet, more) }
  quiet_beside old new (Err e) none quiet more = record { named = λ f is. absurd (none f is); quiet = inr (quiet, more) }

  -- it is read from the same place on
  pub quiet_moved : (old new : LogDev L G) → new.tail ≡ old.tail → IsSettledFrom old.tail.first old.tail.place new log_front × (new.staged ≡ None) → IsQuiet log_front new
  quiet_moved old new tail now = (subst (λ (t : FrameAt). IsSettledFrom t.first t.place new log_front) (sym tail) now.0, now.1)

  -- records were taken into memory at most
  pub quiet_kept : (old new : LogDev L G) → KeepsFrames old new → IsQuiet log_front old → IsQuiet log_front new × (length (stable old) ≤ length (stable new))
  quiet_kept old new kept quiet =
      (quiet_moved old new kept.tail (kept.settled old.tail.first old.tail.place log_front quiet.0, kept.under_way ∙ quiet.1), let same = ap length kept.forced in omega (arith, same))

  -- if it was not refused
  pub quiet_of : {A : Type 0} (old new : LogDev L G) (x : A) → StaysQuiet (Ok x) log_front old new → IsQuiet log_front new × (length (stable old) ≤ length (stable new))
  quiet_of old new x q = elim q.quiet [
    | inl device ↦ absurd (no_err x (Log fault.Device) device)
    | inr now ↦ now
  ]

  -- ---- one call behind another

  module _ (old mid new : LogDev L G) (more : length (stable old) ≤ length (stable mid)) where
    pub quiet_then : {A : Type 0} (r : Result A RestartError) → StaysQuiet r log_front mid new → StaysQuiet r log_front old new
    quiet_then r q = record {
      named = q.named;
      quiet = elim q.quiet [
        | inl device ↦ inl device
        | inr now ↦ inr (now.0, let on = now.1 in omega (arith, more, on))
      ];
    }

    -- an error that was passed on
    pub quiet_err : {A B : Type 0} (r : Result A RestartError) (e : RestartError) → IsErrAnd r (λ x. x ≡ e) → StaysQuiet {A = B} (Err e) log_front mid new → StaysQuiet r log_front old new
    quiet_err (Ok x) e is q = absurd is
    quiet_err (Err x) e is q = record {
      named = λ f at. q.named f (sym is ∙ at);
      quiet = elim q.quiet [
        | inl device ↦ inl (ap Err (is ∙ one_error e (Log fault.Device) device))
        | inr now ↦ inr (now.0, let on = now.1 in omega (arith, more, on))
      ];
    }

    -- .. and one that is of no log device
    pub quiet_other : {A : Type 0} (r : Result A RestartError) (e : RestartError) → IsErrAnd r (λ x. x ≡ e) → IsNoLog e → IsQuiet log_front new → length (stable mid) ≤ length (stable new) → StaysQuiet r log_front old new
    quiet_other (Ok x) e is none quiet on = absurd is
    quiet_other (Err x) e is none quiet on = record { named = λ f at. absurd (none f (sym is ∙ at)); quiet = inr (quiet, omega (arith, more, on)) }

-- ---- a frame

pub longer_stable : {L : Type 0} {G : Ghosts L} (old new : LogDev L G) → ((count : ℕ) → IsLongest (waiting old) count → stable new ≡ stable old ++ take count (waiting old))
    → length (stable old) ≤ length (stable new)
longer_stable old new longer =
    let group = has_longest (waiting old) in
    omega (arith, ap length (longer group.0 group.1), length-append (stable old) (take group.0 (waiting old)))
