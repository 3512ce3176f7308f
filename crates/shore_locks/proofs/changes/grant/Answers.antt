use Rattle.std.proofs.Common.{sym, subst, ap, ◌∙◌, false}
use Rattle.std.specs.Prelude.{IsTrue}
use Rattle.shore_model.specs.Requests.{AreRequests}
use Rattle.shore_locks.specs.Findings.{FindsNode}
use Rattle.shore_locks.specs.Grants.{granted, put}
use Rattle.shore_locks.proofs.AtOnce.{grants_nobody}
use Rattle.shore_nodes.proofs.Entering.{AreRequests-put}
use Rattle.shore_locks.proofs.changes.grant.Goals as goal

pub put-requires-clause-room : goal.put-requires-clause-room
put-requires-clause-room c = subst (λ r. FindsNode c.args.nodes.now r) (sym c.granted-granted.ensures) c.requires.free.finds_node

pub pass-requires : goal.pass-requires
pass-requires c =
    subst AreRequests (sym (c.put.ensures.items ∙ ap (λ r. put r c.args.nodes.now.requests) c.granted-granted.ensures))
    (AreRequests-put (granted c.args.request.now) c.args.nodes.now.requests c.requires.free.orderly.one_each)

pub returns-else-holds_is-clause-items : goal.returns-else-holds_is-clause-items
returns-else-holds_is-clause-items c =
    c.put.ensures.items ∙ ap (λ r. put r c.args.nodes.now.requests) c.granted-granted.ensures
    ∙ sym (grants_nobody c.args.nodes.now c.args.request.now c.requires.free (λ e _. absurd (let f : IsTrue false = subst IsTrue c.if-holds_is.false (c.holds_is.ensures.1 e) in cc)))
