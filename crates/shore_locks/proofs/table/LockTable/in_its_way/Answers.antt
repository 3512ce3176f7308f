use Rattle.std.proofs.Common.{ap, subst, sym, ◌∙◌}
use Rattle.std.specs.Prelude.{IsSome}
use Rattle.shore_nodes.specs.Tables.{Table, waiting_request}
use Rattle.shore_locks.proofs.Blocked.{has_somebody}
use Rattle.shore_locks.proofs.table.LockTable.in_its_way.Goals as goal

pub returns-clause-always : goal.returns-clause-always
returns-clause-always c = λ is.
    let asks = ap (λ (t : Table). waiting_request c.args.request.txn t.requests) c.self.view_is ∙ is in
    subst IsSome (sym c.in_its_way.ensures) (has_somebody c.self.inside.nodes.requests c.self.invariant.kept.orderly c.args.request.txn c.args.request asks)
