use Rattle.std.proofs.Common.{◌<◌, ap, subst, sym, ◌∙◌}
use Rattle.shore_nodes.specs.Nodes.{queue_head}
use Rattle.shore_locks.specs.Grants.{obstacle}
use Rattle.shore_nodes.specs.Tables.{Table}
use Rattle.shore_nodes.proofs.Crowds.{nobody_in_the_way}
use Rattle.shore_nodes.proofs.Tallying.{tally_read}
use Rattle.shore_locks.proofs.counted.Counted.lets_in.Goals as goal

pub returns-in-Some : goal.returns-in-Some
returns-in-Some c = λ yes.
    let told = c.lets_in.ensures.free yes in
    ap (λ (t : Table). obstacle c.args.request.now t.requests) (sym c.self.view_is)
    ∙ nobody_in_the_way c.self.inside.nodes.heads c.queue_head-head.result c.index.result.now c.args.request.now c.in-Some.wanted c.self.inside.nodes.requests
    (c.queue_head-head.ensures.is ∙ ap (λ n. queue_head n c.args.request.now.granule) c.heads.ensures) (tally_read c.self.inside.tallies.items c.self.inside.nodes c.queue_head-head.result c.index.result.now c.self.invariant (subst (λ n. c.queue_head-head.result < n) c.heads.ensures c.queue_head-head.ensures.small) c.index.ensures) c.in-Some.is told.0 told.1
