use Rattle.std.proofs.Common.{◌≡◌, Some, drop}
use Rattle.shore_sessions.specs.Waits.{AreMarkedBut, HasCallRoom, calls_in}
use Rattle.shore_sessions.proofs.waits.Waits.note_let_through.Given as goal

abbrev pub invariant-loop-txn : goal.invariant-loop-txn
invariant-loop-txn l = record {
  calls : calls_in l.self ≡ calls_in l.initial.self;
  room : HasCallRoom l.initial.self → HasCallRoom l.self;
  marked : AreMarkedBut l.let_through l.locks.requests l.initial.self → AreMarkedBut (Some (drop l.txn-index l.txns)) l.locks.requests l.self;
}
