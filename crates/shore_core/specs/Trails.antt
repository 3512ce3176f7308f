-- When the trail of a core may be cut.
use Rattle.std.specs.Prelude.{◌≡◌, ◌⊎◌, ◌+◌, ◌<◌, ℕ, IsTrue, false, filter, length}
use Rattle.shore_disk.specs.declared.device.Disk as disk
use Rattle.shore_log.specs.declared.tail.Tail as tail
use Rattle.shore_model.specs.declared.calls.Answer.TheVariants.{Cut}
use Rattle.shore_model.specs.declared.step.Step.{Step}
use Rattle.shore_model.specs.declared.step.Step.TheVariants.{Done, Refused}
use Rattle.shore_sessions.specs.Calls.{is_resolve}
use Rattle.shore_txn.specs.Transactions.{undos_in}
use Rattle.shore_types.specs.declared.faults.Fault.TheVariants.{Failed, NotQuiet}
use Rattle.shore_core.specs.declared.core_calls.Core.{Core}
use Rattle.shore_core.specs.Cores.{has_failed, txns_of, waits_of}

module _ {T V : Type 0} {G : tail.Ghosts T} {H : disk.Ghosts V} where
  -- how many transactions are under way, with those that a resolve has ended which is not answered yet
  abbrev pub count_of : Core T V G H → ℕ
  count_of core = length (undos_in (txns_of core)) + length (filter is_resolve (waits_of core))

  -- it may be cut just while there is none, and no device has failed
  abbrev pub AnswersCut : Core T V G H → Step → Type 0
  AnswersCut core step =
      (IsTrue (has_failed core) × (step ≡ Refused Failed))
      ⊎ ((has_failed core ≡ false) × (count_of core ≡ 0) × (step ≡ Done Cut))
      ⊎ ((has_failed core ≡ false) × (0 < count_of core) × (step ≡ Refused NotQuiet))
