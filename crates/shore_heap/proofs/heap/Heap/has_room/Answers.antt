use Rattle.std.proofs.Common.{◌↔◌, IsTrue, subst}
use Rattle.shore_types.specs.declared.versions.Version.{Version}
use Rattle.shore_pool.specs.Pools as pools
use Rattle.shore_heap.specs.Contents.{CanKeep}
use Rattle.shore_heap.specs.Heaps.{geometry_of}
use Rattle.shore_heap.proofs.OwnVersions.{lent_tells, own_version}
use Rattle.shore_heap.proofs.heap.Heap.has_room.Goals as goal

pub returns-in-Some : goal.returns-in-Some
returns-in-Some g c =
    let page = c.in-Some.page.now in
    let pool = c.args.self.now.pool in
    lent_tells c.can_keep.result (λ slots. CanKeep (geometry_of c.args.self.now).version slots c.args.slot c.args.bytes) (pools.frame_of pool c.args.id.now) page c.in-Some.ensures
    (subst (λ (v : Version). IsTrue c.can_keep.result ↔ CanKeep v page.slots c.args.slot c.args.bytes) (own_version pool c.args.id.now page c.in-Some.ensures) c.can_keep.ensures)
