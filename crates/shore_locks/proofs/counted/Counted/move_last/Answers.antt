use Rattle.std.proofs.Common.{◌<◌, refl, ap, subst, sym, ◌∙◌}
use Rattle.shore_model.specs.Requests.{AreRequests}
use Rattle.shore_nodes.specs.Nodes.{queue_head}
use Rattle.shore_nodes.specs.Tables.{Table, request_for}
use Rattle.shore_nodes.proofs.Tallying.{known_any, known_in, moved_counted, moved_if, unknown_any}
use Rattle.shore_locks.proofs.counted.Counted.move_last.Goals as goal

pub invariant_of-self : goal.invariant_of-self
invariant_of-self c =
    let known = known_in c.args.request.now c.in-Some.old c.self.inside.nodes.requests c.in-Some.ensures in
    moved_counted c.self.inside.tallies.items c.self.inside.nodes c.move_last-was_there.new.self c.args.request.now c.queue_head-head.result (c.queue_head-head.ensures.is ∙ ap (λ n. queue_head n c.args.request.now.granule) c.heads.ensures) c.self.invariant
    (subst (λ n. c.queue_head-head.result < n) c.heads.ensures c.queue_head-head.ensures.small) c.move_last-was_there.ensures.heads
    c.index_mut-tally.result.now c.take_out.new.self c.add.new.self c.in-Some.old c.index_mut-tally.ensures.value (subst (λ (t : Table). AreRequests t.requests) (sym c.self.view_is) c.requires) known.0 known.1
    c.take_out.ensures.holding c.take_out.ensures.waiting c.take_out.ensures.converting c.add.ensures.holding c.add.ensures.waiting c.add.ensures.converting
    (moved_if c.args.request.now c.self.inside.nodes.requests c.move_last-was_there.new.self.requests c.move_last-was_there.result (known_any c.args.request.now c.in-Some.old c.self.inside.nodes.requests c.in-Some.ensures) c.move_last-was_there.ensures.items) c.len.ensures.fits

pub returns-in_default-clause-items : goal.returns-in_default-clause-items
returns-in_default-clause-items c =
    (unknown_any c.args.request.now c.args.self.now.requests (sym c.in_default.is ∙ c.request_for.ensures ∙ ap (λ (t : Table). request_for c.args.request.now.txn c.args.request.now.granule t.requests) c.self.view_is), refl)
