use Rattle.std.proofs.Common.{◌≡◌, ◌≤◌, ◌<◌, ◌+◌, length, sym, subst}
use Rattle.shore_types.specs.declared.layout.TheConstants.{LAST_OPENED}
use Rattle.shore_sessions.specs.Controls.{txns_in}
use Rattle.shore_txn.specs.Transactions.{room_in}
use Rattle.shore_txn.specs.Txns.{last_of}
use Rattle.shore_core.proofs.core_calls.Core.probe.Goals as goal

pub invariant_of-self : goal.invariant_of-self
invariant_of-self g c =
    let s = sym c.touch.ensures.same in
    let old = c.args.self.now in
    record {
      some_number = subst (λ (t : g.row.T.Denot). 1 ≤ g.T.Tail.first t + length (g.T.Tail.records t)) s old.some_number;
      forced = subst (λ (t : g.row.T.Denot). old.durable < g.T.Tail.first t + length (g.T.Tail.records t)) s old.forced;
      numbers = subst (λ (t : g.row.T.Denot). g.T.Tail.first t + length (g.T.Tail.records t) + (room_in (txns_in old.control)).reserved ≤ LAST_OPENED) s old.numbers;
      earlier = λ t is. subst (λ (u : g.row.T.Denot). last_of t < g.T.Tail.first u + length (g.T.Tail.records u)) s (old.earlier t is);
    }
