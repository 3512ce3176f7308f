use Rattle.std.proofs.Common.{◌-◌, ◌<◌, ℕ}
use Rattle.shore_page.specs.Room.{IsCandidate}
use Rattle.shore_heap.specs.Heaps.{allowed_by}
use Rattle.shore_heap.specs.Places.{slots_of}
use Rattle.shore_heap.proofs.slots.first_allowed.Given as goal

abbrev pub invariant-loop-slot : goal.invariant-loop-slot
invariant-loop-slot g l = (other : ℕ) → other < l.from → IsCandidate l.page.version l.page.slots other l.bytes → slots_of (allowed_by g.P.Places l.places) l.id other → ⊥

abbrev pub decreases-loop-slot : goal.decreases-loop-slot
decreases-loop-slot g l = 65536 - l.from
