use Rattle.std.proofs.Common.{◌≡◌, ◌++◌, drop}
use Rattle.std.specs.List.{filter_map}
use Rattle.shore_model.specs.Requests.{hold_of}
use Rattle.slow_locks.proofs.requests.held_by_all.Given as goal

abbrev pub invariant-loop-request : goal.invariant-loop-request
invariant-loop-request l = l.held ++ filter_map hold_of (drop l.request-index l.requests) ≡ filter_map hold_of l.requests
