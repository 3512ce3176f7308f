use Rattle.shore_dwrite.specs.Volumes.{page_number}
use Rattle.shore_pool.specs.Pools as pools
use Rattle.shore_heap.specs.Contents.{TakesNone}
use Rattle.shore_heap.proofs.Bounds.{bounds_refused}
use Rattle.shore_heap.proofs.Frames.{of_shown}
use Rattle.shore_heap.specs.Heaps.{geometry_of}
use Rattle.shore_heap.proofs.heap.Heap.refuse_if_full.Goals as goal

pub returns-then-takes_none-clause-bounds : goal.returns-then-takes_none-clause-bounds
returns-then-takes_none-clause-bounds g c K front disk S shows =
    let old = c.args.self.now in
    let it = old.pool in
    let id = c.args.id in
    let none =
    of_shown (geometry_of c.args.self.now).version (λ slots. TakesNone (geometry_of c.args.self.now).version slots c.args.bytes) (pools.frame_of it id) (disk (page_number (pools.geometry_of it) id)) id (K id) (S id) (shows.pages id c.requires) (c.takes_none.ensures c.if-takes_none.true) in
    bounds_refused (pools.geometry_of it) old.free.items S shows.bounds id c.refuse.new.self.free.items c.args.bytes c.refuse.ensures.here c.refuse.ensures.others none
