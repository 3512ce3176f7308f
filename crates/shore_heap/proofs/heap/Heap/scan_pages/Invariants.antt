use Rattle.std.proofs.Common.{ℕ, List}
use Rattle.shore_types.specs.declared.ids.PageId.{PageId}
use Rattle.shore_page.specs.Slots.{Slot}
use Rattle.shore_heap.specs.Contents.{AreKept}
use Rattle.shore_heap.specs.Heaps.{Shows, claims_in, geometry_of}
use Rattle.shore_heap.specs.Scans.{HasBefore}
use Rattle.shore_heap.proofs.Going.{Goes}
use Rattle.shore_heap.proofs.heap.Heap.scan_pages.Given as goal

abbrev pub invariant-loop-page : goal.invariant-loop-page
invariant-loop-page g l =
    Goes (claims_in g.C.Claims l.claims) l.ends.durable l.initial.self l.self
    × ((front : List ℕ) (disk : ℕ → List ℕ) (S : PageId → List Slot) → Shows (claims_in g.C.Claims l.claims) l.initial.self front disk S → AreKept (geometry_of l.initial.self) (claims_in g.C.Claims l.claims) S
    → HasBefore S l.store l.page 0 l.list)
