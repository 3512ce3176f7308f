use Rattle.std.proofs.Common.{◌≡◌, ◌<◌, ℕ, get_or, true}
use Rattle.shore_sessions.specs.Calls.{awaits_record}
use Rattle.shore_sessions.specs.declared.waits.WaitingCall.{WaitingCall}
use Rattle.shore_sessions.proofs.waits.Waits.index_of_asker.Given as goal

abbrev pub invariant-loop-index : goal.invariant-loop-index
invariant-loop-index l = (k : ℕ) (d : WaitingCall) → k < l.index → (get_or l.self.calls.items k d).txn ≡ l.txn → awaits_record (get_or l.self.calls.items k d) ≡ true
