use Rattle.std.proofs.Common.{◌≡◌, Some, ap, sym, ◌∙◌}
use Rattle.shore_types.specs.declared.locking.Granule.{Granule}
use Rattle.shore_types.specs.declared.locking.Granule.TheVariants.{Page, Store, Volume}
use Rattle.shore_types.specs.declared.locking.Mode.{Mode}
use Rattle.shore_nodes.specs.Tables.{Table, mode_held}
use Rattle.shore_locks.specs.Cache.{cached}
use Rattle.shore_locks.proofs.Cached.{held_so}
use Rattle.shore_locks.proofs.table.LockTable.held_above.Goals as goal
use Rattle.shore_locks.proofs.table.LockTable.held_above.Goals.{In-Some}

so : (c : In-Some) (g : Granule) (m : Mode) → cached c.self.inside.cache.entries c.args.txn g ≡ Some m → mode_held c.args.txn g c.args.self.now.requests ≡ Some m
so c g m is =
    sym (ap (λ (t : Table). mode_held c.args.txn g t.requests) c.self.view_is)
    ∙ held_so c.self.inside.cache.entries c.self.inside.nodes.requests c.args.txn g m c.self.invariant.kept.orderly.one_each c.self.invariant.known is

pub returns-in-Some-clause-volume : goal.returns-in-Some-clause-volume
returns-in-Some-clause-volume c = so c Volume c.in-Some.known.volume c.in-Some.ensures.0

pub returns-in-Some-clause-store : goal.returns-in-Some-clause-store
returns-in-Some-clause-store c = so c (Store c.args.page.now.store) c.in-Some.known.store c.in-Some.ensures.1

pub returns-in-Some-clause-page : goal.returns-in-Some-clause-page
returns-in-Some-clause-page c = so c (Page c.args.page.now) c.in-Some.known.page c.in-Some.ensures.2
