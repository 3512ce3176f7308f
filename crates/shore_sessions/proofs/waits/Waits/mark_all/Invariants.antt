use Rattle.std.proofs.Common.{◌≡◌, ◌<◌, ℕ, IsTrue, Some, false}
use Rattle.std.specs.Prelude.{slice_get}
use Rattle.shore_locks.specs.Tables.{is_waiting}
use Rattle.shore_sessions.specs.Calls.{awaits_record}
use Rattle.shore_sessions.specs.Waits.{HasCallRoom, IsMarked, calls_in}
use Rattle.shore_sessions.specs.declared.waits.WaitingCall.{WaitingCall}
use Rattle.shore_sessions.proofs.waits.Waits.mark_all.Given as goal

abbrev pub invariant-loop-place : goal.invariant-loop-place
invariant-loop-place l = record {
  calls : calls_in l.self ≡ calls_in l.initial.self;
  room : HasCallRoom l.initial.self → HasCallRoom l.self;
  keeps : (n : ℕ) → IsMarked n l.initial.self → IsMarked n l.self;
  marked : (n : ℕ) (w : WaitingCall) → n < l.place → slice_get (calls_in l.initial.self) n ≡ Some w → awaits_record w ≡ false → is_waiting w.txn l.locks.requests ≡ false → IsMarked n l.self;
  only : (n : ℕ) (w : WaitingCall) → slice_get (calls_in l.initial.self) n ≡ Some w → IsTrue (is_waiting w.txn l.locks.requests) → IsMarked n l.self → IsMarked n l.initial.self;
}
