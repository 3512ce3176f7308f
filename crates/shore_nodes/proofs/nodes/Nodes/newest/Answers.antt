use Rattle.std.proofs.Common.{◌≡◌, Bor, Some, ap, sym, subst, ◌∙◌}
use Rattle.shore_model.specs.declared.requests.Request.{Request}
use Rattle.shore_nodes.specs.Nodes.{alive}
use Rattle.shore_nodes.specs.Orderly.{IsNewest}
use Rattle.shore_nodes.proofs.NodeSteps.{if_some_all, newest_there}
use Rattle.shore_nodes.specs.Tallies.{Stored}
use Rattle.shore_nodes.proofs.nodes.Nodes.newest.Goals as goal

pub returns-in-Some : goal.returns-in-Some
returns-in-Some c =
    if_some_all (λ (r : Bor Request). (r.now ≡ c.in-Some.request.now) × (r.now.txn ≡ c.args.txn)) (λ (r : Bor Request). IsNewest c.args.txn c.args.self.now.requests r.now) c.only_of.result
    (λ r h. subst (λ rs. IsNewest c.args.txn rs r.now) (ap (λ (t : Stored). t.requests) c.self.view_is)
    (newest_there c.self.inside.heads c.self.inside.slots c.self.inside.queues c.self.inside.lists c.self.inside.owners (alive c.self.inside.history.items) c.args.txn c.list_head-head.result c.before-node.result c.saturating_sub.result r.now
    c.self.invariant.0 c.list_head-head.ensures.is c.before-node.ensures.previous c.if-node-head.false c.saturating_sub.ensures (sym c.in-Some.ensures ∙ ap Some (sym h.0)) h.1)) c.only_of.ensures
