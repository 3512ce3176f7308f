use Rattle.std.proofs.Common.{◌≡◌, false, take}
use Rattle.std.specs.Prelude.{All}
use Rattle.shore_model.specs.Requests.{are_alike}
use Rattle.slow_locks.proofs.requests.is_only.Given as goal

abbrev pub invariant-loop-other : goal.invariant-loop-other
invariant-loop-other l = All (λ other. are_alike l.request other ≡ false) (take l.other-index l.later)
