use Rattle.std.proofs.Common.{ℕ, length, map}
use Rattle.std.specs.Prelude.{All}
use Rattle.shore_model.specs.declared.requests.Request.{Request}
use Rattle.shore_model.specs.Requests.{requests_by}
use Rattle.shore_locks.specs.Unawaited.{IsUnawaited}
use Rattle.shore_locks.proofs.searches.may_be_awaited.Given as goal

abbrev pub invariant-loop-request : goal.invariant-loop-request
invariant-loop-request l =
    All (IsUnawaited l.counted.requests) (requests_by l.txn (map (λ (p : ℕ × Request). p.1) l.walk)) → All (IsUnawaited l.counted.requests) (requests_by l.txn l.counted.requests)

abbrev pub decreases-loop-request : goal.decreases-loop-request
decreases-loop-request l = length l.walk
