-- The log device of a restart, whatever the pages hold.
use Rattle.std.specs.Prelude.{◌≡◌, ◌⊎◌, ◌≤◌, ℕ, List, None, Result, Err, IfErr, length}
use Rattle.shore_types.specs.declared.faults.Fault.{Fault}
use Rattle.shore_types.specs.declared.faults.Fault.TheVariants as fault
use Rattle.shore_disk.specs.declared.device.Disk.{Ghosts}
use Rattle.shore_log.specs.Settled.{IsSettledFrom, stable}
use Rattle.shore_log.specs.declared.device.LogDev.{LogDev}
use Rattle.shore_restart.specs.declared.errors.RestartError.{RestartError}
use Rattle.shore_restart.specs.declared.errors.RestartError.TheVariants.{Log}

-- it is settled behind this front, from its tail on, and no frame is under way
abbrev pub IsQuiet : {L : Type 0} {G : Ghosts L} → List ℕ → LogDev L G → Type 0
IsQuiet log_front log = IsSettledFrom log.tail.first log.tail.place log log_front × (log.staged ≡ None)

-- A failure is the one fault of it that is told. Unless it failed it is quiet still, and what was durable is so.
pub record StaysQuiet {L : Type 0} {G : Ghosts L} {A : Type 0} (result : Result A RestartError) (log_front : List ℕ) (old new : LogDev L G) : Type 0 where
  pub named : IfErr result (λ error. (f : Fault) → error ≡ Log f → f ≡ fault.Device)
  pub quiet : (result ≡ Err (Log fault.Device)) ⊎ (IsQuiet log_front new × (length (stable old) ≤ length (stable new)))
