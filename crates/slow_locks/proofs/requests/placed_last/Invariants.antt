use Rattle.std.proofs.Common.{◌≡◌, ◌++◌, drop}
use Rattle.std.specs.Prelude.{filter, not}
use Rattle.shore_model.specs.Requests.{are_alike}
use Rattle.slow_locks.proofs.requests.placed_last.Given as goal

abbrev pub invariant-loop-request : goal.invariant-loop-request
invariant-loop-request l =
    l.after ++ filter (λ q. not (are_alike q l.placed)) (drop l.request-index l.requests) ≡ filter (λ q. not (are_alike q l.placed)) l.requests
