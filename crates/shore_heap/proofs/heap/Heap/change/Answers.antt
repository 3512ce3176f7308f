use Rattle.std.proofs.Common.{List, not, refl, sym, ap, subst, ◌∙◌}
use Rattle.std.specs.Prelude.{option_map}
use Rattle.shore_dwrite.specs.Settled as settled_device
use Rattle.shore_dwrite.specs.declared.device.PageDev.{PageDev}
use Rattle.shore_dwrite.specs.Volumes.{page_number}
use Rattle.shore_page.specs.Room.{Fits}
use Rattle.shore_page.specs.Slots.{Slot, with_image}
use Rattle.shore_types.specs.Images.{image_len, Image}
use Rattle.shore_pool.specs.Changes.{changed}
use Rattle.shore_pool.specs.Pools as pools
use Rattle.shore_pool.specs.declared.pool.Pool.{Pool}
use Rattle.shore_pool.proofs.Same.{there_is}
use Rattle.shore_heap.specs.Contents.{with_slots}
use Rattle.shore_heap.proofs.Bounds.{bounds_forgot, bounds_put_image}
use Rattle.shore_heap.proofs.Frames.{have_changed, of_shown, some_mapped}
use Rattle.shore_heap.proofs.Showing.{frame_is, shows_by}
use Rattle.shore_heap.specs.Heaps.{geometry_of}
use Rattle.shore_heap.proofs.OwnVersions.{by_own}
use Rattle.shore_heap.proofs.heap.Heap.change.Goals as goal

pub change-requires-clause-fits : goal.change-requires-clause-fits
change-requires-clause-fits g c = by_own c.args.self.now.pool c.args.id.page (λ v slots. Fits v slots c.args.id.slot (image_len (option_map (λ bytes. bytes.now) c.args.after))) c.requires.fits

pub returns-then-gone-clause-shows : goal.returns-then-gone-clause-shows
returns-then-gone-clause-shows g c K front disk S shows =
    let old = c.args.self.now in
    let g = pools.geometry_of old.pool in
    let id = c.args.id.page in
    let image : Image = option_map (λ bytes. bytes.now) c.args.after in
    let put : List Slot → List Slot = λ slots. with_image slots c.args.id.slot image in
    let geometry = ap settled_device.geometry_of c.change.ensures.device in
    let here = frame_is c.change.new.self g id _ geometry c.change.ensures.here in
    let held = there_is _ (pools.frame_of old.pool id) c.requires.fits in
    let have = have_changed g (pools.frame_at old.pool) (pools.frame_at c.change.new.self) disk K S id c.requires.there c.change.ensures.others shows.pages (changed c.args.lsn c.args.id.slot image) put (λ e. refl) here held in
    shows_by c.change.new.self c.forget.new.self g K front disk (with_slots S id put) c.forget.ensures.pool geometry (c.change.ensures.kept front disk shows.holds) have
    (bounds_forgot g old.free.items S shows.bounds id c.forget.new.self.free.items put c.forget.ensures.here c.forget.ensures.others)

pub returns-else-gone-clause-shows : goal.returns-else-gone-clause-shows
returns-else-gone-clause-shows g c K front disk S shows =
    let old = c.args.self.now in
    let g = pools.geometry_of old.pool in
    let id = c.args.id.page in
    let image : Image = option_map (λ bytes. bytes.now) c.args.after in
    let put : List Slot → List Slot = λ slots. with_image slots c.args.id.slot image in
    let geometry = ap settled_device.geometry_of c.change.ensures.device in
    let here = frame_is c.change.new.self g id _ geometry c.change.ensures.here in
    let held = there_is _ (pools.frame_of old.pool id) c.requires.fits in
    let have = have_changed g (pools.frame_at old.pool) (pools.frame_at c.change.new.self) disk K S id c.requires.there c.change.ensures.others shows.pages (changed c.args.lsn c.args.id.slot image) put (λ e. refl) here held in
    let fits = of_shown (geometry_of c.args.self.now).version (λ slots. Fits (geometry_of c.args.self.now).version slots c.args.id.slot (image_len image)) (pools.frame_of old.pool id) (disk (page_number g id)) id (K id) (S id) (shows.pages id c.requires.there) c.requires.fits in
    shows_by c.change.new.self _ g K front disk (with_slots S id put) refl geometry (c.change.ensures.kept front disk shows.holds) have
    (bounds_put_image g old.free.items S shows.bounds id c.args.id.slot image (some_mapped _ c.args.after (c.is_none-gone.ensures ∙ ap not c.if-gone.false)) fits)

pub returns-then-gone-clause-untouched : goal.returns-then-gone-clause-untouched
returns-then-gone-clause-untouched g c front disk holds = (
  subst (λ (p : Pool _ g.D.Disk). pools.PoolHolds p front disk) (sym c.forget.ensures.pool) (c.change.ensures.kept front disk holds),
  ap (λ (p : Pool _ g.D.Disk). pools.history_of p) c.forget.ensures.pool ∙ ap (λ (d : PageDev _ g.D.Disk). g.D.Disk.history (settled_device.device_of d)) c.change.ensures.device,
)

pub returns-else-gone-clause-untouched : goal.returns-else-gone-clause-untouched
returns-else-gone-clause-untouched g c front disk holds =
    (c.change.ensures.kept front disk holds, ap (λ (d : PageDev _ g.D.Disk). g.D.Disk.history (settled_device.device_of d)) c.change.ensures.device)
