use Rattle.std.proofs.Common.{sym, ◌∙◌}
use Rattle.shore_pool.proofs.Indexes.{removed, removed_others}
use Rattle.shore_pool.proofs.frames.Frames.remove.Goals as goal

pub invariant_of-self-clause-indexed : goal.invariant_of-self-clause-indexed
invariant_of-self-clause-indexed c =
    let old = c.args.self.now in
    removed old.slots c.try_remove.new.self old.table.items c.args.number c.in-Some.key c.in-Some.ensures.within old.indexed (sym c.key.ensures.key ∙ c.in-Some.is) c.try_remove.ensures.updates

pub returns-in-Some-clause-others : goal.returns-in-Some-clause-others
returns-in-Some-clause-others c =
    let old = c.args.self.now in
    removed_others old.slots c.try_remove.new.self old.table.items c.args.number c.in-Some.key c.in-Some.ensures.within old.indexed (sym c.key.ensures.key ∙ c.in-Some.is) c.try_remove.ensures.updates
