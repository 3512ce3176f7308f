use Rattle.std.proofs.Common.{◌<◌, ◌≤◌, ℕ, List, length}
use Rattle.shore_types.specs.declared.ids.PageId.{PageId}
use Rattle.shore_types.specs.declared.ids.Rid.{Rid}
use Rattle.shore_page.specs.Slots.{Slot}
use Rattle.shore_heap.specs.Contents.{AreKept}
use Rattle.shore_heap.specs.Heaps.{Shows, claims_in, geometry_of}
use Rattle.shore_heap.specs.Scans.{IsPart}
use Rattle.shore_heap.proofs.Going.{Goes}
use Rattle.shore_heap.proofs.heap.Heap.scan_part.Given as goal

-- the pages so far are listed, and those without the last had fewer than were asked for
abbrev pub invariant-loop-page : goal.invariant-loop-page
invariant-loop-page g l =
    Goes (claims_in g.C.Claims l.claims) l.ends.durable l.initial.self l.self
    × (l.from ≤ l.page)
    × ((front : List ℕ) (disk : ℕ → List ℕ) (S : PageId → List Slot) → Shows (claims_in g.C.Claims l.claims) l.initial.self front disk S → AreKept (geometry_of l.initial.self) (claims_in g.C.Claims l.claims) S
    → IsPart S l.store l.from l.page l.list
    × ((to : ℕ) (part : List (Rid × List ℕ)) → l.from < to → to < l.page → IsPart S l.store l.from to part → length part < l.most))
