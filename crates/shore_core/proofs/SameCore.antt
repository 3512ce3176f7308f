-- A core whose control is what it was is what it was: all else that may differ are proofs.
use Rattle.std.proofs.Common.{◌≡◌, ◌+◌, ◌<◌, ◌≤◌, length, sym, ap, subst, ◌∙◌}
use Rattle.std.proofs.Props.{props}
use Rattle.shore_types.specs.declared.layout.TheConstants.{LAST_OPENED}
use Rattle.shore_disk.specs.declared.device.Disk as disk
use Rattle.shore_log.specs.declared.tail.Tail as tail
use Rattle.laws_lives.specs.Views.{IsAmong}
use Rattle.shore_sessions.specs.Controls.{txns_in}
use Rattle.shore_sessions.specs.declared.control.Control.{Control}
use Rattle.shore_txn.specs.Transactions as table
use Rattle.shore_txn.specs.Transactions.{room_in}
use Rattle.shore_txn.specs.Txns.{last_of}
use Rattle.shore_txn.specs.declared.txn.Txn.{Txn}
use Rattle.shore_core.specs.declared.core_calls.Core.{Core}
use Rattle.shore_core.specs.Cores.{first_of, waiting_of}

module _ {T V : Type 0} {G : tail.Ghosts T} {H : disk.Ghosts V} (old : Core T V G H) where
  abbrev SomeNumber : Type 0
  SomeNumber = 1 ≤ first_of old + length (waiting_of old)

  abbrev Forced : Type 0
  Forced = old.durable < first_of old + length (waiting_of old)

  abbrev Numbers : Control → Type 0
  Numbers control = first_of old + length (waiting_of old) + (room_in (txns_in control)).reserved ≤ LAST_OPENED

  abbrev Earlier : Control → Type 0
  Earlier control = (t : Txn) → IsAmong t (table.txns_in (txns_in control)) → last_of t < first_of old + length (waiting_of old)

  abbrev with_control : (control : Control) → SomeNumber → Forced → Numbers control → Earlier control → Core T V G H
  with_control control some forced numbers earlier = record {
    heap = old.heap;
    tail = old.tail;
    control = control;
    durable = old.durable;
    failed = old.failed;
    some_number = some;
    forced = forced;
    numbers = numbers;
    earlier = earlier;
  }

  some_prop : IsProp SomeNumber
  some_prop = hlevel props

  forced_prop : IsProp Forced
  forced_prop = hlevel props

  numbers_prop : (control : Control) → IsProp (Numbers control)
  numbers_prop control = hlevel props

  earlier_prop : (control : Control) → IsProp (Earlier control)
  earlier_prop control = hlevel props

  pub same_core : (control : Control) → control ≡ old.control → (some : SomeNumber) (forced : Forced) (numbers : Numbers control) (earlier : Earlier control) → with_control control some forced numbers earlier ≡ old
  same_core control same = subst (λ x. (some : SomeNumber) (forced : Forced) (numbers : Numbers x) (earlier : Earlier x) → with_control x some forced numbers earlier ≡ old) (sym same) (λ some forced numbers earlier.
      ap (λ p. with_control old.control p forced numbers earlier) (some_prop some old.some_number)
      ∙ ap (λ p. with_control old.control old.some_number p numbers earlier) (forced_prop forced old.forced)
      ∙ ap (λ p. with_control old.control old.some_number old.forced p earlier) (numbers_prop old.control numbers old.numbers)
      ∙ ap (λ p. with_control old.control old.some_number old.forced old.numbers p) (earlier_prop old.control earlier old.earlier))
