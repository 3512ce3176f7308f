use Rattle.std.proofs.Common.{◌<◌, ap, subst, sym, ◌∙◌}
use Rattle.shore_nodes.specs.Nodes.{queue_head}
use Rattle.shore_model.specs.Requests.{AreRequests}
use Rattle.shore_nodes.specs.Tables.{Table, request_for}
use Rattle.shore_nodes.proofs.Tallying.{known_in, removed_counted, unknown_removed}
use Rattle.shore_locks.proofs.counted.Counted.remove.Goals as goal

pub invariant_of-self : goal.invariant_of-self
invariant_of-self c =
    let known = known_in c.args.request.now c.in-Some.old c.self.inside.nodes.requests c.in-Some.ensures in
    removed_counted c.self.inside.tallies.items c.self.inside.nodes c.remove.new.self c.args.request.now c.queue_head-head.result (c.queue_head-head.ensures.is ∙ ap (λ n. queue_head n c.args.request.now.granule) c.heads.ensures) c.self.invariant
    (subst (λ n. c.queue_head-head.result < n) c.heads.ensures c.queue_head-head.ensures.small) c.remove.ensures.heads
    c.index_mut.result.now c.take_out.new.self c.in-Some.old c.index_mut.ensures.value (subst (λ (t : Table). AreRequests t.requests) (sym c.self.view_is) c.requires) known.0 known.1
    c.take_out.ensures.holding c.take_out.ensures.waiting c.take_out.ensures.converting c.remove.ensures.items

pub returns-in_default-clause-items : goal.returns-in_default-clause-items
returns-in_default-clause-items c =
    sym (unknown_removed c.args.request.now c.args.self.now.requests (sym c.in_default.is ∙ c.request_for.ensures ∙ ap (λ (t : Table). request_for c.args.request.now.txn c.args.request.now.granule t.requests) c.self.view_is))
