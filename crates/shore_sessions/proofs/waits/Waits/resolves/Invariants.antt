use Rattle.std.proofs.Common.{◌≢◌, ◌<◌, ℕ, get_or}
use Rattle.shore_model.specs.declared.calls.Call.TheVariants.{Resolve}
use Rattle.shore_model.specs.declared.calls.Outcome.{Outcome}
use Rattle.shore_sessions.specs.declared.waits.WaitingCall.{WaitingCall}
use Rattle.shore_sessions.proofs.waits.Waits.resolves.Given as goal

abbrev pub invariant-loop-waiting : goal.invariant-loop-waiting
invariant-loop-waiting l = (k : ℕ) (d : WaitingCall) → k < l.waiting-index → (asked : Outcome) → (get_or l.self.calls.items k d).call ≢ Resolve l.global asked
