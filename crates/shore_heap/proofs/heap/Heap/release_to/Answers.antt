use Rattle.std.proofs.Common.{List, option_map, refl, sym, ap, subst, ◌∙◌}
use Rattle.shore_pool.specs.declared.frame.Frame.{Frame}
use Rattle.shore_dwrite.specs.Settled as settled_device
use Rattle.shore_page.specs.Room.{lowered}
use Rattle.shore_page.specs.Slots.{Slot, with_change}
use Rattle.shore_pool.specs.Changes.{reclaimed}
use Rattle.shore_pool.specs.Pools as pools
use Rattle.shore_pool.specs.declared.pool.Pool.{Pool}
use Rattle.shore_dwrite.specs.declared.device.PageDev.{PageDev}
use Rattle.shore_dwrite.specs.Volumes.{page_number}
use Rattle.shore_pool.specs.Pages.{SamePages}
use Rattle.shore_pool.proofs.Same.{claims_stay, there_is}
use Rattle.shore_heap.specs.Contents.{with_slots}
use Rattle.shore_heap.proofs.Bounds.{bounds_forgot}
use Rattle.shore_heap.proofs.Frames.{have_changed}
use Rattle.shore_heap.proofs.Showing.{frame_is, same_dirt, shows_by}
use Rattle.shore_heap.specs.Heaps.{geometry_of}
use Rattle.shore_heap.proofs.heap.Heap.release_to.Goals as goal

pub returns-clause-shows : goal.returns-clause-shows
returns-clause-shows g c K front disk S shows =
    let old = c.args.self.now in
    let g = pools.geometry_of old.pool in
    let id = c.args.id.page in
    let lower : List Slot → List Slot = λ slots. with_change (lowered c.args.bytes) slots c.args.id.slot in
    let geometry = ap settled_device.geometry_of c.unreserve.ensures.device in
    let here = frame_is c.unreserve.new.self g id _ geometry c.unreserve.ensures.here in
    let held = there_is _ (pools.frame_of old.pool id) c.requires.slot in
    let have = have_changed g (pools.frame_at old.pool) (pools.frame_at c.unreserve.new.self) disk K S id c.requires.there c.unreserve.ensures.others shows.pages (reclaimed (lowered c.args.bytes) c.args.id.slot) lower (λ e. refl) here held in
    shows_by c.unreserve.new.self c.forget.new.self g K front disk (with_slots S id lower) c.forget.ensures.pool geometry (c.unreserve.ensures.kept front disk shows.holds).0 have
    (bounds_forgot g old.free.items S shows.bounds id c.forget.new.self.free.items lower c.forget.ensures.here c.forget.ensures.others)

pub returns-clause-untouched : goal.returns-clause-untouched
returns-clause-untouched g c front disk holds = (
  subst (λ (p : Pool _ g.D.Disk). pools.PoolHolds p front disk) (sym c.forget.ensures.pool) (c.unreserve.ensures.kept front disk holds).0,
  ap (λ (p : Pool _ g.D.Disk). pools.history_of p) c.forget.ensures.pool ∙ ap (λ (d : PageDev _ g.D.Disk). g.D.Disk.history (settled_device.device_of d)) c.unreserve.ensures.device,
)

pub returns-clause-same : goal.returns-clause-same
returns-clause-same g c disk =
    let old = c.args.self.now in
    let volume = pools.geometry_of old.pool in
    let id = c.args.id.page in
    let here = frame_is c.unreserve.new.self volume id _ (ap settled_device.geometry_of c.unreserve.ensures.device) c.unreserve.ensures.here in
    subst (λ (p : Pool _ g.D.Disk). SamePages (geometry_of c.args.self.now).version (pools.frame_at old.pool) disk (pools.frame_at p) disk) (sym c.forget.ensures.pool)
    (claims_stay (geometry_of c.args.self.now).version (pools.frame_at old.pool) (pools.frame_at c.unreserve.new.self) disk (page_number volume id) c.args.id.slot (lowered c.args.bytes) (λ s. refl) here c.unreserve.ensures.others)

pub returns-clause-dirt : goal.returns-clause-dirt
returns-clause-dirt g c k =
    let old = c.args.self.now in
    let volume = pools.geometry_of old.pool in
    let id = c.args.id.page in
    let here = frame_is c.unreserve.new.self volume id _ (ap settled_device.geometry_of c.unreserve.ensures.device) c.unreserve.ensures.here in
    ap (λ (p : Pool _ g.D.Disk). option_map (λ (f : Frame). f.recovery) (pools.frame_at p k)) c.forget.ensures.pool
    ∙ same_dirt (pools.frame_at old.pool) (pools.frame_at c.unreserve.new.self) (page_number volume id) c.args.id.slot (lowered c.args.bytes) here c.unreserve.ensures.others k
