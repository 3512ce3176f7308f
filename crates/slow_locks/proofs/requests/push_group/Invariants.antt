use Rattle.std.proofs.Common.{◌≡◌, ◌++◌, drop}
use Rattle.std.specs.Prelude.{filter}
use Rattle.shore_model.specs.Requests.{is_in_group, requests_at}
use Rattle.slow_locks.proofs.requests.push_group.Given as goal

abbrev pub invariant-loop-request : goal.invariant-loop-request
invariant-loop-request l =
    l.queue ++ filter (is_in_group l.group) (requests_at l.granule (drop l.request-index l.requests))
    ≡ l.initial.queue ++ filter (is_in_group l.group) (requests_at l.granule l.requests)
