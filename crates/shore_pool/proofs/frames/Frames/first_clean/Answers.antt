use Rattle.std.proofs.Common.{arith}
use Rattle.shore_pool.proofs.Indexes.{key_of_frame}
use Rattle.shore_pool.proofs.frames.Frames.first_clean.Goals as goal

pub returns-clause-none : goal.returns-clause-none
returns-clause-none c k f is =
    let old = c.args.self.now in
    let at = key_of_frame old.slots old.table.items k f is in
    c.loop-key.invariant at.0 (omega (arith, at.3, c.capacity-key-end.ensures.slots, c.loop-key-test.false)) f at.2
