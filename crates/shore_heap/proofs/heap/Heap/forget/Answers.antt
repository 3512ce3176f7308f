use Rattle.std.proofs.Common.{◌∙◌}
use Rattle.shore_pool.specs.Pools as pools
use Rattle.shore_heap.proofs.Bounds.{sets_bound}
use Rattle.shore_heap.proofs.heap.Heap.forget.Goals as goal

pub returns-clause-here : goal.returns-clause-here
returns-clause-here g c =
    let old = c.args.self.now in
    (sets_bound (pools.geometry_of old.pool).stores old.free.items _ _ c.args.id _ c.index_mut.result.now c.forget.new.self old.maps c.id.view_is c.requires c.index_mut.ensures.value c.forget.ensures).here

pub returns-clause-others : goal.returns-clause-others
returns-clause-others g c =
    let old = c.args.self.now in
    (sets_bound (pools.geometry_of old.pool).stores old.free.items _ _ c.args.id _ c.index_mut.result.now c.forget.new.self old.maps c.id.view_is c.requires c.index_mut.ensures.value c.forget.ensures).others

pub invariant_of-self : goal.invariant_of-self
invariant_of-self g c =
    let old = c.args.self.now in
    record { maps = (sets_bound (pools.geometry_of old.pool).stores old.free.items _ _ c.args.id _ c.index_mut.result.now c.forget.new.self old.maps c.id.view_is c.requires c.index_mut.ensures.value c.forget.ensures).lengths ∙ old.maps }
