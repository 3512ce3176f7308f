use Rattle.std.proofs.Common.{◌≡◌, List}
use Rattle.shore_types.specs.declared.ids.PageId.{PageId}
use Rattle.shore_page.specs.Slots.{Slot}
use Rattle.shore_heap.specs.Scans.{HasBefore}
use Rattle.shore_heap.proofs.scans.copy_records.Given as goal

abbrev pub invariant-loop-slot : goal.invariant-loop-slot
invariant-loop-slot l = (S : PageId → List Slot) → S l.id ≡ l.page.slots → HasBefore S l.id.store l.id.page 0 l.initial.list → HasBefore S l.id.store l.id.page l.slot l.list
