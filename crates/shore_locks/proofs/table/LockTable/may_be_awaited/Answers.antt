use Rattle.std.proofs.Common.{ℕ, subst}
use Rattle.shore_model.specs.Requests.{WaitsFor}
use Rattle.shore_nodes.specs.Tables.{Table}
use Rattle.shore_locks.proofs.Unawaited.{nobody_waits_for}
use Rattle.shore_locks.proofs.table.LockTable.may_be_awaited.Goals as goal

pub returns : goal.returns
returns c = λ none.
    subst (λ (t : Table). (u : ℕ) → WaitsFor t.requests u c.args.txn → ⊥) c.self.view_is
    (nobody_waits_for c.self.inside.nodes.requests c.args.txn c.self.invariant.kept.orderly.one_each (c.may_be_awaited.ensures none))
