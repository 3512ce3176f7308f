use Rattle.std.proofs.Common.{◌≡◌, Option, None, Some, true, false, ap, refl, sym, ◌∙◌}
use Rattle.std.specs.Prelude.{is_some}
use Rattle.shore_types.specs.declared.locking.Granule.TheVariants.{Volume}
use Rattle.shore_types.specs.declared.locking.Mode.{Mode}
use Rattle.shore_locks.specs.Cache.{cached}
use Rattle.shore_nodes.specs.Tables.{Table, is_waiting}
use Rattle.shore_locks.proofs.table.LockTable.is_waiting.Goals as goal

pub returns-then-is_some : goal.returns-then-is_some
returns-then-is_some c = each c.held.result refl (sym c.is_some.ensures ∙ c.if-is_some.true)
  where
    each : (said : Option Mode) → c.held.result ≡ said → is_some said ≡ true → false ≡ is_waiting c.args.txn c.args.self.now.requests
    each None is none = absurd cc
    each (Some m) is some =
        sym (c.self.invariant.quiet c.args.txn Volume m (sym c.held.ensures ∙ is)) ∙ ap (λ (t : Table). is_waiting c.args.txn t.requests) c.self.view_is
