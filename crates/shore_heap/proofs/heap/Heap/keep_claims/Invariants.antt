use Rattle.std.proofs.Common.{◌≡◌, ◌++◌, [], ℕ, List}
use Rattle.shore_heap.proofs.Keeping.{Keeps}
use Rattle.shore_heap.proofs.heap.Heap.keep_claims.Given as goal

abbrev pub invariant-loop-place : goal.invariant-loop-place
invariant-loop-place g l = record {
  chain : g.C.Claims.IsOnChain l.claims l.id l.place;
  end : g.C.Claims.kept_from l.claims l.id 0 ≡ [];
  so_far : (done : List (ℕ × ℕ)) × (g.C.Claims.kept_from l.claims l.id l.place ++ done ≡ g.C.Claims.kept l.claims l.id) × Keeps l.id done l.initial.self l.self;
}

abbrev pub decreases-loop-place : goal.decreases-loop-place
decreases-loop-place g l = l.place
