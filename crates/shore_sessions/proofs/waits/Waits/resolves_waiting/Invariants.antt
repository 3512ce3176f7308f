use Rattle.std.proofs.Common.{◌≡◌, ◌≤◌, length, take}
use Rattle.std.specs.Prelude.{filter}
use Rattle.shore_sessions.specs.Calls.{is_resolve}
use Rattle.shore_sessions.proofs.waits.Waits.resolves_waiting.Given as goal

abbrev pub invariant-loop-call : goal.invariant-loop-call
invariant-loop-call l = (l.count ≡ length (filter is_resolve (take l.call-index l.self.calls.items))) × (l.count ≤ l.call-index)
