use Rattle.std.proofs.Common.{subst, IsPermutation}
use Rattle.std.proofs.lemmas.List.Sorted.{IsPermutation-trans}
use Rattle.shore_nodes.specs.Tables.{Table}
use Rattle.shore_locks.proofs.table.LockTable.requests.Goals as goal

pub returns-clause-all : goal.returns-clause-all
returns-clause-all c =
    subst (λ (t : Table). IsPermutation t.requests c.put_in_order.new.requests.items) c.self.view_is
    (IsPermutation-trans c.self.inside.nodes.requests c.in_ok-requests.requests.items c.put_in_order.new.requests.items c.in_ok-requests.ensures c.put_in_order.ensures.same)
