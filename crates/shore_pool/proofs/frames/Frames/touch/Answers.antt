use Rattle.std.proofs.Common.{sym, ◌∙◌}
use Rattle.shore_pool.proofs.Indexes.{frame_there}
use Rattle.shore_pool.proofs.frames.Frames.touch.Goals as goal

pub returns-in-Some-clause-there : goal.returns-in-Some-clause-there
returns-in-Some-clause-there c =
    let old = c.args.self.now in
    sym (frame_there old.slots old.table.items old.indexed c.args.number c.in-Some.key (sym c.key.ensures.key ∙ c.in-Some.is))
