use Rattle.std.proofs.Common.{refl}
use Rattle.shore_pool.proofs.Indexes.{added, added_others}
use Rattle.shore_pool.proofs.frames.Frames.add.Goals as goal

pub invariant_of-self-clause-indexed : goal.invariant_of-self-clause-indexed
invariant_of-self-clause-indexed c =
    let old = c.args.self.now in
    added old.slots c.insert_reserved-key.new.self old.table.items c.args.number c.insert_reserved-key.result c.requires.on_volume _ c.insert_reserved-key.ensures.updates refl old.indexed c.insert_reserved-key.ensures.was_vacant c.requires.none

pub returns-clause-others : goal.returns-clause-others
returns-clause-others c =
    let old = c.args.self.now in
    added_others old.slots c.insert_reserved-key.new.self old.table.items c.args.number c.insert_reserved-key.result c.requires.on_volume _ c.insert_reserved-key.ensures.updates refl old.indexed c.insert_reserved-key.ensures.was_vacant
