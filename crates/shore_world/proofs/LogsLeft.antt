-- The log device that a restart leaves.
use Rattle.std.proofs.Common.{◌≡◌, ◌+◌, ◌-◌, ◌≤◌, ℕ, List, None, Result, Ok, Err, inl, inr, sym, ap, subst, ◌∙◌, length, arith}
use Rattle.shore_types.specs.declared.faults.Fault.TheVariants as fault
use Rattle.shore_disk.specs.declared.device.Disk.{Ghosts}
use Rattle.shore_frames.specs.declared.reading.FrameAt.{FrameAt}
use Rattle.shore_log.specs.Settled.{IsSettledFrom, anchor_of, cut_of_log, records_of_log, stable}
use Rattle.shore_log.specs.declared.device.LogDev.{LogDev}
use Rattle.shore_restart.specs.declared.errors.RestartError.{RestartError}
use Rattle.shore_restart.specs.declared.errors.RestartError.TheVariants as error
use Rattle.shore_restart.specs.Quiet.{IsQuiet, StaysQuiet}

no_record : (n : ℕ) → ◌≡◌ {A = Result (Unit {0}) RestartError} (Err (error.BadRecord n)) (Err (error.Log fault.Device)) → ⊥
no_record n is = cc

no_error : ◌≡◌ {A = Result (Unit {0}) RestartError} (Ok tt) (Err (error.Log fault.Device)) → ⊥
no_error is = cc

module _ {L : Type 0} {G : Ghosts L} where
  -- one that is settled from an anchor on is quiet
  pub quiet_of : (tail place : ℕ) (log : LogDev L G) (log_front : List ℕ) → IsSettledFrom tail place log log_front → log.staged ≡ None → IsQuiet log_front log
  quiet_of tail place log log_front settled none = (
    subst (λ t. IsSettledFrom t log.tail.place log log_front) (sym settled.holds.first) (subst (λ p. IsSettledFrom tail p log log_front) (sym settled.holds.place_is) settled),
    none,
  )

  -- .. and a quiet one is settled from its anchor on
  pub settled_of : (log : LogDev L G) (log_front : List ℕ) → IsQuiet log_front log → IsSettledFrom (anchor_of log).tail (anchor_of log).tail_place log log_front
  settled_of log log_front quiet =
      subst (λ t. IsSettledFrom t (anchor_of log).tail_place log log_front) (sym log.anchored.0) (subst (λ p. IsSettledFrom log.tail.first p log log_front) (sym log.anchored.1) quiet.0)

  -- behind a restart it is settled
  pub quiet_still : (log_front : List ℕ) (old new : LogDev L G) → StaysQuiet {A = Unit {0}} (Ok tt) log_front old new → IsQuiet log_front new
  quiet_still log_front old new quiet = elim quiet.quiet [
    | inl device ↦ absurd (no_error device)
    | inr now ↦ now.0
  ]

  -- behind a refusal by a record too, with all that was found
  pub settled_left : (log_front : List ℕ) (old new : LogDev L G) (e : RestartError) (n : ℕ) → e ≡ error.BadRecord n → StaysQuiet {A = Unit {0}} (Err e) log_front old new
      → stable old ≡ records_of_log old → new.tail ≡ old.tail
      → IsSettledFrom (anchor_of new).tail (anchor_of new).tail_place new log_front × (n ≤ cut_of_log old + length (records_of_log old) → n ≤ cut_of_log new + length (stable new))
  settled_left log_front old new e n is quiet all tails = elim quiet.quiet [
    | inl device ↦ absurd (no_record n (ap Err (sym is) ∙ device))
    | inr now ↦ (
      settled_of new log_front now.0,
      λ most. let more = now.1 in let same = ap length all in let cuts = ap (λ (t : FrameAt). t.first - 1) tails in omega (arith, most, more, same, cuts),
    )
  ]
