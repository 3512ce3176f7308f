use Rattle.std.proofs.Common.{ap, sym, ◌∙◌}
use Rattle.shore_nodes.specs.Tables.{Table, mode_held}
use Rattle.shore_locks.proofs.Cached.{held_so}
use Rattle.shore_locks.proofs.table.LockTable.held.Goals as goal

pub returns-in-Some : goal.returns-in-Some
returns-in-Some c =
    sym (held_so c.self.inside.cache.entries c.self.inside.nodes.requests c.args.txn c.args.granule c.in-Some.known c.self.invariant.kept.orderly.one_each c.self.invariant.known (sym c.in-Some.ensures))
    ∙ ap (λ (t : Table). mode_held c.args.txn c.args.granule t.requests) c.self.view_is
