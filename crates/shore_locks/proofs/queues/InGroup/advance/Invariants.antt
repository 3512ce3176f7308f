use Rattle.std.proofs.Common.{◌≡◌, ℕ, length, map}
use Rattle.std.specs.Prelude.{filter}
use Rattle.shore_model.specs.declared.requests.Request.{Request}
use Rattle.shore_model.specs.Requests.{is_in_group, requests_at}
use Rattle.shore_locks.proofs.queues.InGroup.advance.Given as goal

abbrev pub invariant-loop-request : goal.invariant-loop-request
invariant-loop-request l =
    filter (is_in_group l.self-inside.group) (requests_at l.self-inside.granule (map (λ (p : ℕ × Request). p.1) l.self-inside.walk)) ≡ l.fn.self

abbrev pub decreases-loop-request : goal.decreases-loop-request
decreases-loop-request l = length l.self-inside.walk
