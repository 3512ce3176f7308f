use Rattle.std.proofs.Common.{drop}
use Rattle.shore_model.specs.Requests.{AreRequests}
use Rattle.slow_locks.proofs.WaitLemmas.{StandsWith}
use Rattle.slow_locks.proofs.requests.are_requests.Given as goal

abbrev pub invariant-loop-index : goal.invariant-loop-index
invariant-loop-index l = StandsWith (AreRequests l.requests) (AreRequests (drop l.index l.requests))
