use Rattle.std.proofs.Common.{◌≡◌, ◌<◌, refl, ap, subst, sym, ◌∙◌, slice_set}
use Rattle.shore_nodes.specs.Nodes.{queue_head}
use Rattle.shore_nodes.specs.Tallies.{AreCounted}
use Rattle.shore_model.specs.Requests.{AreRequests}
use Rattle.shore_locks.specs.Popping.{Pops}
use Rattle.shore_nodes.specs.Tables.{Table}
use Rattle.shore_nodes.proofs.Crowds.{nobody_waits}
use Rattle.shore_nodes.proofs.Keys.{alike-self}
use Rattle.shore_nodes.proofs.Tallying.{counted_same, first_in, removed_counted, tally_read}
use Rattle.shore_locks.proofs.counted.Counted.pop_first.Goals as goal
use Rattle.shore_locks.proofs.counted.Counted.pop_first.Goals.{then-has_waiters, else-has_waiters}

pub invariant_of-self : goal.invariant_of-self
invariant_of-self c =
    removed_counted c.self.inside.tallies.items c.self.inside.nodes c.pop_first.new.self c.in-Some.request c.queue_head-head.result (c.queue_head-head.ensures.is ∙ ap (λ n. queue_head n c.in-Some.request.granule) c.heads-heads.ensures) c.self.invariant
    (subst (λ n. c.queue_head-head.result < n) c.heads-heads.ensures c.queue_head-head.ensures.small) c.pop_first.ensures.heads
    c.index_mut.result.now c.take_out.new.self c.in-Some.request c.index_mut.ensures.value (subst (λ (t : Table). AreRequests t.requests) (sym c.self.view_is) c.requires) (first_in c.args.txn c.self.inside.nodes.requests c.in-Some.request c.in-Some.ensures.items.0) (alike-self c.in-Some.request)
    c.take_out.ensures.holding c.take_out.ensures.waiting c.take_out.ensures.converting c.in-Some.ensures.items.1

pub invariant_of-self-in-None : goal.invariant_of-self-in-None
invariant_of-self-in-None c = counted_same c.self.inside.tallies.items c.self.inside.nodes c.pop_first.new.self c.self.invariant c.pop_first.ensures.heads c.in-None.ensures.items.1

pub returns-after-has_waiters-clause-items : goal.returns-after-has_waiters-clause-items
returns-after-has_waiters-clause-items c =
    let heads : c.heads-heads.result ≡ c.pop_first.new.self.heads = c.heads-heads.ensures ∙ sym c.pop_first.ensures.heads in
    let counted : AreCounted (slice_set c.self.inside.tallies.items c.queue_head-head.result c.take_out.new.self) c.pop_first.new.self =
    removed_counted c.self.inside.tallies.items c.self.inside.nodes c.pop_first.new.self c.in-Some.request c.queue_head-head.result (c.queue_head-head.ensures.is ∙ ap (λ n. queue_head n c.in-Some.request.granule) c.heads-heads.ensures) c.self.invariant
    (subst (λ n. c.queue_head-head.result < n) c.heads-heads.ensures c.queue_head-head.ensures.small) c.pop_first.ensures.heads
    c.index_mut.result.now c.take_out.new.self c.in-Some.request c.index_mut.ensures.value (subst (λ (t : Table). AreRequests t.requests) (sym c.self.view_is) c.requires) (first_in c.args.txn c.self.inside.nodes.requests c.in-Some.request c.in-Some.ensures.items.0) (alike-self c.in-Some.request)
    c.take_out.ensures.holding c.take_out.ensures.waiting c.take_out.ensures.converting c.in-Some.ensures.items.1 in
    let quiet = nobody_waits c.pop_first.new.self.heads c.queue_head-head.result c.index.result.now c.in-Some.request.granule c.pop_first.new.self.requests
    (c.queue_head-head.ensures.is ∙ ap (λ n. queue_head n c.in-Some.request.granule) heads)
    (tally_read (slice_set c.self.inside.tallies.items c.queue_head-head.result c.take_out.new.self) c.pop_first.new.self c.queue_head-head.result c.index.result.now counted
    (subst (λ n. c.queue_head-head.result < n) heads c.queue_head-head.ensures.small) c.index.ensures) in
    subst (λ (t : Table). Pops c.args.txn t.requests c.if-has_waiters.result c.pop_first.new.self.requests) c.self.view_is
    (elim c.if-has_waiters.branch [
      | then-has_waiters w ↦ subst (λ p. Pops c.args.txn c.self.inside.nodes.requests p c.pop_first.new.self.requests) (sym w.result-is) (c.in-Some.request, c.in-Some.ensures.items, refl)
      | else-has_waiters w ↦ subst (λ p. Pops c.args.txn c.self.inside.nodes.requests p c.pop_first.new.self.requests) (sym w.result-is) (c.in-Some.request, c.in-Some.ensures.items, quiet (c.has_waiters.ensures.none w.if-has_waiters.false))
    ])
