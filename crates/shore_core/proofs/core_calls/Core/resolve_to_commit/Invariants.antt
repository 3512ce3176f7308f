use Rattle.std.proofs.Common.{◌≡◌, ℕ, List, is_some, take}
use Rattle.shore_types.specs.declared.ids.PageId.{PageId}
use Rattle.shore_page.specs.Slots.{Slot}
use Rattle.shore_pool.specs.Pages.{SamePages}
use Rattle.shore_heap.specs.Contents.{ClaimsOfPages}
use Rattle.shore_heap.specs.Dirty.{SameDirt}
use Rattle.shore_heap.specs.Heaps.{Shows, device_of, frame_at, frame_of}
use Rattle.shore_core.proofs.Releasing.{ShowsLeft, Take}
use Rattle.shore_core.specs.Cores.{geometry_of}
use Rattle.shore_core.proofs.core_calls.Core.resolve_to_commit.Given as goal

abbrev pub invariant-loop-change : goal.invariant-loop-change
invariant-loop-change g l =
    (l.self.tail ≡ l.initial.self.tail) × (l.self.control ≡ l.initial.self.control) × (l.self.durable ≡ l.initial.self.durable) × (l.self.failed ≡ l.initial.self.failed)
    × (device_of l.self.heap ≡ device_of l.initial.self.heap)
    × ((k : ℕ) → is_some (frame_at l.self.heap k) ≡ is_some (frame_at l.initial.self.heap k))
    × ((disk : ℕ → List ℕ) → SamePages (geometry_of l.initial.self).version (frame_at l.initial.self.heap) disk (frame_at l.self.heap) disk)
    × ((K stay : ClaimsOfPages) (front : List ℕ) (disk : ℕ → List ℕ) (S : PageId → List Slot) → Take (geometry_of l.initial.self).version stay S → Shows K l.initial.self.heap front disk S
    → ShowsLeft (λ p. is_some (frame_of l.initial.self.heap p)) K stay S l.self.heap front disk (take l.change-index l.change-items))
    × SameDirt l.initial.self.heap l.self.heap
