use Rattle.std.proofs.Common.{◌↔◌, IsTrue, List, ℕ, subst}
use Rattle.shore_types.specs.declared.versions.Version.{Version}
use Rattle.shore_types.specs.declared.ids.PageId.{PageId}
use Rattle.shore_dwrite.specs.Volumes.{page_number}
use Rattle.shore_page.specs.Room.{Fits}
use Rattle.shore_page.specs.Slots.{Slot}
use Rattle.shore_pool.specs.Pools as pools
use Rattle.shore_heap.specs.Heaps.{geometry_of}
use Rattle.shore_heap.proofs.Frames.{of_shown, shown_to}
use Rattle.shore_heap.proofs.OwnVersions.{lent_tells, own_version}
use Rattle.shore_heap.proofs.heap.Heap.fits.Goals as goal

pub returns-in-Some-clause-framed : goal.returns-in-Some-clause-framed
returns-in-Some-clause-framed g c =
    let page = c.in-Some.page.now in
    let pool = c.args.self.now.pool in
    lent_tells c.fits.result (λ slots. Fits (geometry_of c.args.self.now).version slots c.args.id.slot c.args.bytes) (pools.frame_of pool c.args.id.page) page c.in-Some.ensures
    (subst (λ (v : Version). IsTrue c.fits.result ↔ Fits v page.slots c.args.id.slot c.args.bytes) (own_version pool c.args.id.page page c.in-Some.ensures) c.fits.ensures)

pub returns-in-Some-clause-shown : goal.returns-in-Some-clause-shown
returns-in-Some-clause-shown g c K front disk S shows =
    let page = c.in-Some.page.now in
    let pool = c.args.self.now.pool in
    let id = c.args.id.page in
    let P : List Slot → Type 0 = λ slots. Fits (geometry_of c.args.self.now).version slots c.args.id.slot c.args.bytes in
    let framed = lent_tells c.fits.result P (pools.frame_of pool id) page c.in-Some.ensures
    (subst (λ (v : Version). IsTrue c.fits.result ↔ Fits v page.slots c.args.id.slot c.args.bytes) (own_version pool id page c.in-Some.ensures) c.fits.ensures) in
    let text = disk (page_number (pools.geometry_of pool) id) in
    let has = shows.pages id c.requires.there in (
      λ yes. of_shown (geometry_of c.args.self.now).version P (pools.frame_of pool id) text id (K id) (S id) has (framed.0 yes),
      λ fits. framed.1 (shown_to (geometry_of c.args.self.now).version P (pools.frame_of pool id) text id (K id) (S id) has c.requires.held fits),
    )
