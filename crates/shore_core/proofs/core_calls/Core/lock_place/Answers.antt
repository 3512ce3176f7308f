use Rattle.std.proofs.Common.{◌≡◌, ◌+◌, ◌<◌, ◌≤◌, length, refl, sym, subst}
use Rattle.shore_types.specs.declared.faults.Fault.TheVariants as fault
use Rattle.shore_types.specs.declared.layout.TheConstants.{LAST_OPENED}
use Rattle.laws_lives.specs.Views.{IsAmong}
use Rattle.shore_txn.specs.Transactions.{room_in}
use Rattle.shore_txn.specs.Transactions as table
use Rattle.shore_txn.specs.Txns.{last_of}
use Rattle.shore_txn.specs.declared.txn.Txn.{Txn}
use Rattle.shore_core.specs.Cores.{first_of, locks_of, waiting_of}
use Rattle.shore_core.proofs.Placing.{try_done, try_refused}
use Rattle.shore_core.proofs.Taking.{plain_refusal}
use Rattle.shore_core.proofs.core_calls.Core.lock_place.Goals as goal

pub invariant_of-self : goal.invariant_of-self
invariant_of-self g c =
    let old = c.args.self.now in
    record {
      some_number = old.some_number;
      forced = old.forced;
      numbers = subst (λ t. first_of old + length (waiting_of old) + (room_in t).reserved ≤ LAST_OPENED) (sym c.acquire_record.ensures.txns) old.numbers;
      earlier = subst (λ l. (t : Txn) → IsAmong t (table.txns_in l) → last_of t < first_of old + length (waiting_of old)) (sym c.acquire_record.ensures.txns) old.earlier;
    }

pub returns-in_err-acquire_record-clause-refused : goal.returns-in_err-acquire_record-clause-refused
returns-in_err-acquire_record-clause-refused g c =
    plain_refusal c.from_residual.result (λ f. f ≡ fault.LockTableFull) _ c.from_residual.ensures.1 (try_refused (locks_of c.args.self.now) c.args.txn c.args.place c.requires.lockable _ c.in_err-acquire_record.ensures.answer)

pub returns-clause-answer : goal.returns-clause-answer
returns-clause-answer g c = try_done (locks_of c.args.self.now) c.args.txn c.args.place c.requires.lockable _ c.in_ok-acquire_record.ensures.answer

pub returns-in_err-acquire_record-clause-only : goal.returns-in_err-acquire_record-clause-only
returns-in_err-acquire_record-clause-only g c = record { heap = refl; tail = refl; durable = refl; failed = refl; txns = c.acquire_record.ensures.txns }

pub returns-clause-only : goal.returns-clause-only
returns-clause-only g c = record { heap = refl; tail = refl; durable = refl; failed = refl; txns = c.acquire_record.ensures.txns }
