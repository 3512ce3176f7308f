use Rattle.std.proofs.Common.{◌<◌, ap, subst, ◌∙◌}
use Rattle.shore_nodes.specs.Nodes.{queue_head}
use Rattle.shore_nodes.proofs.Tallying.{pushed_counted}
use Rattle.shore_locks.proofs.counted.Counted.push.Goals as goal

pub invariant_of-self : goal.invariant_of-self
invariant_of-self c =
    pushed_counted c.self.inside.tallies.items c.self.inside.nodes c.push.new.self c.args.request.now c.queue_head-head.result (c.queue_head-head.ensures.is ∙ ap (λ n. queue_head n c.args.request.now.granule) c.heads.ensures) c.self.invariant (subst (λ n. c.queue_head-head.result < n) c.heads.ensures c.queue_head-head.ensures.small) c.push.ensures.heads
    c.index_mut.result.now c.add.new.self c.index_mut.ensures.value c.add.ensures.holding c.add.ensures.waiting c.add.ensures.converting c.push.ensures.items c.len.ensures.fits
