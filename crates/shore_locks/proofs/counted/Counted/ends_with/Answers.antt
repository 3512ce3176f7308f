use Rattle.std.proofs.Common.{ap, subst, sym, ◌∙◌}
use Rattle.shore_nodes.specs.Nodes.{queue_head}
use Rattle.shore_nodes.specs.Tables.{Table}
use Rattle.shore_locks.specs.Unawaited.{ComesLast}
use Rattle.shore_locks.proofs.Unawaited.{last_at}
use Rattle.shore_locks.proofs.counted.Counted.ends_with.Goals as goal

pub returns-in-Some : goal.returns-in-Some
returns-in-Some c = λ its.
    subst (λ (t : Table). ComesLast t.requests c.args.request.now) c.self.view_is
    (last_at c.self.inside.nodes.heads c.queue_head-head.result c.args.request.now c.in-Some.last.now c.self.inside.nodes.requests c.in-Some.ensures.0
    (c.queue_head-head.ensures.is ∙ ap (λ n. queue_head n c.args.request.now.granule) c.heads.ensures) c.in-Some.ensures.1 (sym c.is_for.ensures ∙ its))
