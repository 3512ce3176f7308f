use Rattle.std.proofs.Common.{MatchOption, subst}
use Rattle.shore_types.specs.declared.versions.Version.{Version}
use Rattle.shore_pool.specs.Pools as pools
use Rattle.shore_heap.specs.Heaps.{allowed_by, geometry_of}
use Rattle.shore_heap.specs.Places.{HasNoSlot, IsFirstSlot, slots_of}
use Rattle.shore_heap.proofs.Frames.{of_lent}
use Rattle.shore_heap.proofs.OwnVersions.{own_version}
use Rattle.shore_heap.proofs.heap.Heap.allowed_on.Goals as goal

pub returns-in-Some : goal.returns-in-Some
returns-in-Some g c =
    let page = c.in-Some.page.now in
    let pool = c.args.self.now.pool in
    let id = c.args.id.now in
    let may = slots_of (allowed_by g.P.Places c.args.places.now) id in
    of_lent (λ slots. MatchOption c.first_allowed.result (HasNoSlot (geometry_of c.args.self.now).version slots c.args.bytes may) (IsFirstSlot (geometry_of c.args.self.now).version slots c.args.bytes may))
    (pools.frame_of pool id) page c.in-Some.ensures
    (subst (λ (v : Version). MatchOption c.first_allowed.result (HasNoSlot v page.slots c.args.bytes may) (IsFirstSlot v page.slots c.args.bytes may)) (own_version pool id page c.in-Some.ensures) c.first_allowed.ensures)
