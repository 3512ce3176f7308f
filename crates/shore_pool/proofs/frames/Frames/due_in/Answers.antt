use Rattle.std.proofs.Common.{sym}
use Rattle.shore_pool.proofs.Indexes.{numbered}
use Rattle.shore_pool.proofs.frames.Frames.due_in.Goals as goal

pub returns-clause-due : goal.returns-clause-due
returns-clause-due c =
    let old = c.args.self.now in
    (numbered old.slots old.table.items old.indexed c.args.place c.in_ok-key.key c.in_ok-due.due.number (sym c.in_ok-key.ensures.key) c.in_ok-due.ensures.number, c.in_ok-due.ensures.due)
