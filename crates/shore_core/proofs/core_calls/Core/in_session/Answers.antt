use Rattle.std.proofs.Common.{sym, subst}
use Rattle.laws_calls.specs.States.{DoesNotWait}
use Rattle.shore_sessions.specs.Controls.{HasNoWait}
use Rattle.shore_txn.specs.Txns.{IsOf}
use Rattle.shore_core.specs.Cores.{control_of}
use Rattle.shore_core.specs.Replies.{Called}
use Rattle.shore_core.proofs.core_calls.Core.in_session.Goals as goal

pub in_txn-requires-clause-free : goal.in_txn-requires-clause-free
in_txn-requires-clause-free g c = subst (λ n. HasNoWait n (control_of c.args.self.now)) (sym c.in-Some.ensures.some.1) c.requires.free

pub in_txn-requires-clause-own : goal.in_txn-requires-clause-own
in_txn-requires-clause-own g c t m at = subst (λ n. IsOf n t) (sym c.in-Some.ensures.some.1) (c.in-Some.ensures.own t m at)

pub returns-in-Some-clause-replied : goal.returns-in-Some-clause-replied
returns-in-Some-clause-replied g c running front disk before s store is safe over idle =
    let its = c.in-Some.ensures.some.1 in
    subst (λ n. Called n c.args.call c.in_txn.result c.args.self.now c.in_txn.new.self front before s store) its
    (c.in_txn.ensures.replied running front disk before s store is safe over (subst (DoesNotWait s) (sym its) idle))
