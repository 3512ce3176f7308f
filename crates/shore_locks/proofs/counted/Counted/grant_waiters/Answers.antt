use Rattle.std.proofs.Common.{◌<◌, ap, subst, sym, ◌∙◌}
use Rattle.shore_nodes.specs.Nodes.{queue_head}
use Rattle.shore_nodes.specs.Tables.{waiters_at}
use Rattle.shore_nodes.specs.Tallies.{Counts, crowd}
use Rattle.shore_nodes.proofs.Crowds.{other_granted}
use Rattle.shore_nodes.proofs.Passes.{In-waiters}
use Rattle.shore_nodes.proofs.Tallying.{counted_set}
use Rattle.shore_locks.proofs.counted.Counted.grant_waiters.Goals as goal

pub recount-requires : goal.recount-requires
recount-requires c = subst (λ n. c.queue_head-head.result < n) (sym c.grant_waiters.ensures.heads) (subst (λ n. c.queue_head-head.result < n) c.heads.ensures c.queue_head-head.ensures.small)

pub invariant_of-self : goal.invariant_of-self
invariant_of-self c =
    counted_set c.self.inside.tallies.items c.self.inside.nodes c.grant_waiters.new.self c.queue_head-head.result c.recount.result c.self.invariant c.grant_waiters.ensures.heads (subst (λ n. c.queue_head-head.result < n) c.heads.ensures c.queue_head-head.ensures.small)
    (subst (λ n. Counts c.recount.result (crowd n c.queue_head-head.result c.grant_waiters.new.self.requests)) c.grant_waiters.ensures.heads c.recount.ensures)
    (λ b other. ap (crowd c.self.inside.nodes.heads b) c.grant_waiters.ensures.items
    ∙ other_granted c.self.inside.nodes.heads b c.args.granule.now (λ e. other ((c.queue_head-head.ensures.is ∙ ap (λ n. queue_head n c.args.granule.now) c.heads.ensures) ∙ e)) (waiters_at c.args.granule.now c.self.inside.nodes.requests) c.self.inside.nodes.requests
    (λ w h. (In-waiters c.args.granule.now c.self.inside.nodes.requests w h).1))
