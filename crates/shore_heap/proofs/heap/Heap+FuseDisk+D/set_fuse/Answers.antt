use Rattle.std.proofs.Common.{Option, sym, subst}
use Rattle.shore_types.specs.Layout.{HasPage}
use Rattle.shore_types.specs.declared.layout.Geometry.{Geometry}
use Rattle.shore_dwrite.specs.Volumes.{page_number}
use Rattle.shore_pool.specs.declared.frame.Frame.{Frame}
use Rattle.shore_pool.specs.Pools as pools
use Rattle.shore_heap.specs.Contents.{HasSlots, TakesNone}
use Rattle.shore_heap.specs.Heaps.{geometry_of}
use Rattle.shore_heap.proofs.heap.Heap+FuseDisk+D.set_fuse.Goals as goal

pub returns-clause-shows : goal.returns-clause-shows
returns-clause-shows g c K front disk S shows =
    let was = pools.geometry_of c.args.self.now.pool in
    let same = c.set_fuse.ensures.geometry in
    record {
      holds = c.set_fuse.ensures.holds front disk shows.holds;
      pages = λ id there.
          let before = shows.pages id (subst (λ (x : Geometry). HasPage x id) same there) in
          subst (λ (x : Geometry). HasSlots x.version (pools.frame_at c.set_fuse.new.self (page_number x id)) (disk (page_number x id)) id (K id) (S id)) (sym same)
          (subst (λ (o : Option Frame). HasSlots was.version o (disk (page_number was id)) id (K id) (S id)) (sym (c.set_fuse.ensures.frames (page_number was id))) before);
      bounds = λ id bytes there up_to. subst (λ (x : Geometry). TakesNone x.version (S id) bytes) (sym same) (shows.bounds id bytes (subst (λ (x : Geometry). HasPage x id) same there) up_to);
    }

pub returns-clause-untouched : goal.returns-clause-untouched
returns-clause-untouched g c front disk holds = (c.set_fuse.ensures.holds front disk holds, c.set_fuse.ensures.history)
