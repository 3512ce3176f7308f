use Rattle.std.proofs.Common.{List, map, option_map, refl, sym, ap, subst}
use Rattle.shore_pool.specs.declared.frame.Frame.{Frame}
use Rattle.shore_dwrite.specs.Volumes.{page_number}
use Rattle.shore_page.specs.Room.{lowered}
use Rattle.shore_page.specs.Slots.{Slot, settled, with_change}
use Rattle.shore_page.specs.Text.{images_of}
use Rattle.shore_pool.specs.Pools as pools
use Rattle.shore_pool.specs.declared.pool.Pool.{Pool}
use Rattle.shore_heap.specs.Contents.{HasSlots, claimed_by, with_slots}
use Rattle.shore_heap.proofs.Bounds.{bounds_forgot}
use Rattle.shore_heap.proofs.Released.{have_told, nothing_kept, told_slots}
use Rattle.shore_heap.proofs.Showing.{shows_by}
use Rattle.shore_heap.specs.Heaps.{geometry_of}
use Rattle.shore_heap.proofs.heap.Heap.release.Goals as goal

pub returns-then-has_slot-clause-shows : goal.returns-then-has_slot-clause-shows
returns-then-has_slot-clause-shows g c K front disk S shows none = c.release_to.ensures.shows K front disk S shows

pub returns-else-has_slot-clause-shows : goal.returns-else-has_slot-clause-shows
returns-else-has_slot-clause-shows g c K front disk S shows none =
    let old = c.args.self.now in
    let g = pools.geometry_of old.pool in
    let id = c.args.id.page in
    let change : List Slot → List Slot = λ slots. with_change (lowered 0) slots c.args.id.slot in
    let text = disk (page_number g id) in
    let have = have_told g (pools.frame_at old.pool) disk K K S id change shows.pages (λ p apart. refl) (λ there.
    let stays = nothing_kept (geometry_of c.args.self.now).version (pools.frame_of old.pool id) text id (K id) (S id) c.args.id.slot (shows.pages id there) none (c.has_slot.ensures.none c.if-has_slot.false) in
    subst (HasSlots (geometry_of c.args.self.now).version (pools.frame_of old.pool id) text id (K id)) (sym stays) (shows.pages id there)) in
    shows_by old.pool c.forget.new.self g K front disk (with_slots S id change) c.forget.ensures.pool refl shows.holds have
    (bounds_forgot g old.free.items S shows.bounds id c.forget.new.self.free.items change c.forget.ensures.here c.forget.ensures.others)

pub returns-else-has_slot-clause-told : goal.returns-else-has_slot-clause-told
returns-else-has_slot-clause-told g c K L front disk S shows none others fit =
    let old = c.args.self.now in
    let g = pools.geometry_of old.pool in
    let id = c.args.id.page in
    let change : List Slot → List Slot = λ slots. claimed_by (L id) (map settled (images_of slots)) in
    let have = have_told g (pools.frame_at old.pool) disk K L S id change shows.pages others
    (λ there. told_slots (geometry_of c.args.self.now).version (pools.frame_of old.pool id) (disk (page_number g id)) id (K id) (L id) (S id) none (shows.pages id there) fit) in
    shows_by old.pool c.forget.new.self g L front disk (with_slots S id change) c.forget.ensures.pool refl shows.holds have
    (bounds_forgot g old.free.items S shows.bounds id c.forget.new.self.free.items change c.forget.ensures.here c.forget.ensures.others)

pub returns-else-has_slot-clause-untouched : goal.returns-else-has_slot-clause-untouched
returns-else-has_slot-clause-untouched g c front disk holds = (
  subst (λ (p : Pool _ g.D.Disk). pools.PoolHolds p front disk) (sym c.forget.ensures.pool) holds,
  ap (λ (p : Pool _ g.D.Disk). pools.history_of p) c.forget.ensures.pool,
)

pub returns-else-has_slot-clause-dirt : goal.returns-else-has_slot-clause-dirt
returns-else-has_slot-clause-dirt g c k = ap (λ (p : Pool _ g.D.Disk). option_map (λ (f : Frame). f.recovery) (pools.frame_at p k)) c.forget.ensures.pool
