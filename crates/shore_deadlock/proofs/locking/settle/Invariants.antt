use Rattle.std.proofs.Common.{◌≡◌, None, false}
use Rattle.shore_locks.specs.Tables.{Table, is_waiting}
use Rattle.shore_deadlock.specs.Locking.{IsLetWait, Keeps, others_waiting}
use Rattle.shore_deadlock.proofs.Rounds.{Gone}
use Rattle.shore_deadlock.proofs.locking.settle.Given as goal

abbrev pub invariant-loop-answer : goal.invariant-loop-answer
invariant-loop-answer l = record {
  gone : (before : Table) → IsLetWait before l.txn l.target l.mode l.fn.table → Gone before l.txn l.target l.mode l.victims.items l.table;
  quiet : is_waiting l.txn l.table.requests ≡ false;
  keeps : (before : Table) → IsLetWait before l.txn l.target l.mode l.fn.table → Keeps l.txn before.requests l.table.requests;
  others : l.let_through ≡ None;
}

abbrev pub decreases-loop-answer : goal.decreases-loop-answer
decreases-loop-answer l = others_waiting l.txn l.table.requests
