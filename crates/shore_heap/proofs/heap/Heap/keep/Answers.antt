use Rattle.shore_heap.specs.Contents.{CanKeep}
use Rattle.shore_heap.proofs.OwnVersions.{by_own}
use Rattle.shore_heap.proofs.heap.Heap.keep.Goals as goal

pub reserve-requires-clause-fits : goal.reserve-requires-clause-fits
reserve-requires-clause-fits g c = by_own c.args.self.now.pool c.args.id.now (λ v slots. CanKeep v slots c.args.slot c.args.bytes) (c.has_room.ensures.0 c.if-has_room.true)
