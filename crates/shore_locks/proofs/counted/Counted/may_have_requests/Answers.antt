use Rattle.std.proofs.Common.{ap, sym, ◌∙◌}
use Rattle.std.specs.Prelude.{not}
use Rattle.std.proofs.Math.Bool.{not-not}
use Rattle.shore_model.specs.Requests.{requests_at}
use Rattle.shore_nodes.specs.Nodes.{queue_head}
use Rattle.shore_nodes.specs.Tables.{Table}
use Rattle.shore_nodes.proofs.Crowds.{nobody_at}
use Rattle.shore_locks.proofs.counted.Counted.may_have_requests.Goals as goal

pub returns : goal.returns
returns c = λ none.
    ap (λ (t : Table). requests_at c.args.granule.now t.requests) (sym c.self.view_is)
    ∙ nobody_at c.self.inside.nodes.heads c.queue_head-head.result c.args.granule.now c.self.inside.nodes.requests
    (c.queue_head-head.ensures.is ∙ ap (λ n. queue_head n c.args.granule.now) c.heads.ensures) (c.is_deserted.ensures (sym (not-not c.is_deserted.result) ∙ ap not none))
