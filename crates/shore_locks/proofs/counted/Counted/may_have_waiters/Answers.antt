use Rattle.std.proofs.Common.{◌<◌, ap, subst, sym, ◌∙◌}
use Rattle.shore_nodes.specs.Nodes.{queue_head}
use Rattle.shore_nodes.specs.Tables.{Table, waiters_at}
use Rattle.shore_nodes.proofs.Crowds.{nobody_waits}
use Rattle.shore_nodes.proofs.Tallying.{tally_read}
use Rattle.shore_locks.proofs.counted.Counted.may_have_waiters.Goals as goal

pub returns : goal.returns
returns c = λ none.
    ap (λ (t : Table). waiters_at c.args.granule.now t.requests) (sym c.self.view_is)
    ∙ nobody_waits c.self.inside.nodes.heads c.queue_head-head.result c.index.result.now c.args.granule.now c.self.inside.nodes.requests
    (c.queue_head-head.ensures.is ∙ ap (λ n. queue_head n c.args.granule.now) c.heads.ensures) (tally_read c.self.inside.tallies.items c.self.inside.nodes c.queue_head-head.result c.index.result.now c.self.invariant (subst (λ n. c.queue_head-head.result < n) c.heads.ensures c.queue_head-head.ensures.small) c.index.ensures) (c.has_waiters.ensures.none none)
