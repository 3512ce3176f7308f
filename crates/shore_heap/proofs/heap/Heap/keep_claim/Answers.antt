use Rattle.std.proofs.Common.{List, refl, ap}
use Rattle.shore_dwrite.specs.Settled as settled_device
use Rattle.shore_dwrite.specs.Volumes.{page_number}
use Rattle.shore_dwrite.specs.declared.device.PageDev.{PageDev}
use Rattle.shore_page.specs.Room.{raised}
use Rattle.shore_page.specs.Slots.{Slot, with_change}
use Rattle.shore_pool.specs.Changes.{reclaimed}
use Rattle.shore_pool.specs.Pools as pools
use Rattle.shore_pool.proofs.Same.{claims_stay, there_is}
use Rattle.shore_heap.specs.Contents.{with_slots, CanKeep}
use Rattle.shore_heap.proofs.Claimed.{bounds_kept}
use Rattle.shore_heap.proofs.Frames.{have_changed}
use Rattle.shore_heap.proofs.Showing.{frame_is, shows_by}
use Rattle.shore_heap.specs.Heaps.{geometry_of}
use Rattle.shore_heap.proofs.OwnVersions.{by_own}
use Rattle.shore_heap.proofs.heap.Heap.keep_claim.Goals as goal

pub reserve-requires-clause-fits : goal.reserve-requires-clause-fits
reserve-requires-clause-fits g c =
    by_own c.args.self.now.pool c.args.id.now.page (λ v slots. CanKeep v slots c.args.id.now.slot c.args.bytes) (c.has_room.ensures.0 c.if-not-has_room.false)

pub returns-clause-shows : goal.returns-clause-shows
returns-clause-shows g c kept K front disk S shows =
    let old = c.args.self.now in
    let volume = pools.geometry_of old.pool in
    let id = c.args.id.now.page in
    let slot = c.args.id.now.slot in
    let raise : List Slot → List Slot = λ slots. with_change (raised c.args.bytes) slots slot in
    let geometry = ap settled_device.geometry_of c.reserve.ensures.device in
    let here = frame_is c.reserve.new.self volume id _ geometry c.reserve.ensures.here in
    let can = c.has_room.ensures.0 c.if-not-has_room.false in
    let have = have_changed volume (pools.frame_at old.pool) (pools.frame_at c.reserve.new.self) disk K S id c.requires.there c.reserve.ensures.others shows.pages (reclaimed (raised c.args.bytes) slot) raise (λ e. refl) here
    (there_is _ (pools.frame_of old.pool id) can) in
    shows_by c.reserve.new.self _ volume K front disk (with_slots S id raise) refl geometry (c.reserve.ensures.kept front disk shows.holds).0 have
    (bounds_kept volume old.free.items S shows.bounds id slot c.args.bytes _ _ (pools.frame_of old.pool id) can (shows.pages id c.requires.there))

pub returns-clause-same : goal.returns-clause-same
returns-clause-same g c disk =
    let old = c.args.self.now in
    let volume = pools.geometry_of old.pool in
    let id = c.args.id.now.page in
    let here = frame_is c.reserve.new.self volume id _ (ap settled_device.geometry_of c.reserve.ensures.device) c.reserve.ensures.here in
    claims_stay (geometry_of c.args.self.now).version (pools.frame_at old.pool) (pools.frame_at c.reserve.new.self) disk (page_number volume id) c.args.id.now.slot (raised c.args.bytes) (λ s. refl) here c.reserve.ensures.others

pub returns-clause-untouched : goal.returns-clause-untouched
returns-clause-untouched g c front disk holds = (
  (c.reserve.ensures.kept front disk holds).0,
  ap (λ (d : PageDev _ g.D.Disk). g.D.Disk.history (settled_device.device_of d)) c.reserve.ensures.device,
)
