use Rattle.std.proofs.Common.{◌-◌, ◌<◌, ℕ, List}
use Rattle.shore_page.specs.Slots.{Slot}
use Rattle.shore_types.specs.declared.ids.PageId.{PageId}
use Rattle.shore_heap.specs.Contents.{AreKept}
use Rattle.shore_heap.specs.Heaps.{Shows, allowed_by, claims_in, geometry_of}
use Rattle.shore_heap.proofs.Finding.{NoneOn}
use Rattle.shore_heap.proofs.Going.{Goes}
use Rattle.shore_heap.proofs.heap.Heap.place_for.Given as goal

abbrev pub invariant-loop-from : goal.invariant-loop-from
invariant-loop-from g l = record {
  goes : Goes (claims_in g.C.Claims l.claims) l.ends.durable l.initial.self l.self;
  none : (front : List ℕ) (disk : ℕ → List ℕ) (S : PageId → List Slot) → Shows (claims_in g.C.Claims l.claims) l.initial.self front disk S → AreKept (geometry_of l.initial.self) (claims_in g.C.Claims l.claims) S
      → (j : ℕ) → j < l.from → NoneOn (geometry_of l.initial.self) S l.store l.bytes (allowed_by g.P.Places l.places) j;
}

abbrev pub decreases-loop-from : goal.decreases-loop-from
decreases-loop-from g l = l.end - l.from
