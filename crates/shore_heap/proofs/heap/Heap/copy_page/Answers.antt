use Rattle.std.proofs.Common.{◌≡◌, List, refl, ◌∙◌}
use Rattle.shore_dwrite.specs.Volumes.{page_number}
use Rattle.shore_page.specs.Slots.{Slot}
use Rattle.shore_pool.specs.Pools as pools
use Rattle.shore_heap.proofs.Frames.{of_lent, of_shown}
use Rattle.shore_heap.specs.Heaps.{geometry_of}
use Rattle.shore_heap.proofs.heap.Heap.copy_page.Goals as goal

pub returns-in-Some : goal.returns-in-Some
returns-in-Some g c K front disk S shows P like before =
    let it = c.args.self.now.pool in
    let id = c.args.id.now in
    let slots : List Slot = c.in-Some.page.now.slots in
    let same : S id ≡ slots = of_shown (geometry_of c.args.self.now).version (λ l. l ≡ slots) (pools.frame_of it id) (disk (page_number (pools.geometry_of it) id)) id (K id) (S id) (shows.pages id c.requires.there)
    (of_lent (λ l. l ≡ slots) (pools.frame_of it id) c.in-Some.page.now c.in-Some.ensures refl) in
    c.copy_records.ensures P (like ∙ same) before
