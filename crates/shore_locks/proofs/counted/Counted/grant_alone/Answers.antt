use Rattle.std.proofs.Common.{◌≡◌, ◌<◌, [], refl, ap, subst, sym, ◌∙◌}
use Rattle.shore_model.specs.Requests.{requests_at}
use Rattle.shore_locks.specs.Grants.{first_hold}
use Rattle.shore_nodes.specs.Nodes.{queue_head}
use Rattle.shore_nodes.specs.Tables.{Table}
use Rattle.shore_nodes.specs.Tallies.{crowd}
use Rattle.shore_nodes.proofs.Crowds.{nobody_at}
use Rattle.shore_nodes.proofs.Tallying.{pushed_counted}
use Rattle.shore_locks.proofs.counted.Counted.grant_alone.Goals as goal

pub invariant_of-self : goal.invariant_of-self
invariant_of-self c =
    pushed_counted c.self.inside.tallies.items c.self.inside.nodes c.push.new.self (first_hold c.args.txn c.args.granule.now c.args.mode) c.queue_head-head.result (c.queue_head-head.ensures.is ∙ ap (λ n. queue_head n c.args.granule.now) c.heads.ensures) c.self.invariant (subst (λ n. c.queue_head-head.result < n) c.heads.ensures c.queue_head-head.ensures.small) c.push.ensures.heads
    c.index_mut.result.now c.add.new.self c.index_mut.ensures.value c.add.ensures.holding c.add.ensures.waiting c.add.ensures.converting c.push.ensures.items c.len.ensures.fits

pub returns-clause-alone : goal.returns-clause-alone
returns-clause-alone c = λ yes.
    ap (λ (t : Table). requests_at c.args.granule.now t.requests) (sym c.self.view_is)
    ∙ nobody_at c.self.inside.nodes.heads c.queue_head-head.result c.args.granule.now c.self.inside.nodes.requests
    (c.queue_head-head.ensures.is ∙ ap (λ n. queue_head n c.args.granule.now) c.heads.ensures)
    (subst (λ n. crowd n c.queue_head-head.result c.self.inside.nodes.requests ≡ []) refl (c.if-not-is_deserted.ensures yes))
