use Rattle.std.proofs.Common.{◌≡◌, ◌++◌, ℕ, map, length}
use Rattle.shore_model.specs.declared.requests.Request.{Request}
use Rattle.shore_locks.specs.Listing.{granules_in_ex}
use Rattle.shore_locks.proofs.listings.append_exclusive.Given as goal

abbrev pub invariant-loop-request : goal.invariant-loop-request
invariant-loop-request l =
    l.granules.items ++ granules_in_ex l.txn (map (λ (p : ℕ × Request). p.1) l.walk)
    ≡ l.initial.granules.items ++ granules_in_ex l.txn (map (λ (p : ℕ × Request). p.1) l.initial.walk)

abbrev pub decreases-loop-request : goal.decreases-loop-request
decreases-loop-request l = length l.walk
