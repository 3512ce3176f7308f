use Rattle.std.proofs.Common.{ℕ, map, ap, ◌∙◌}
use Rattle.shore_model.specs.declared.requests.Request.{Request}
use Rattle.shore_model.specs.Requests.{requests_at}
use Rattle.shore_rings.specs.Rings.{after_at}
use Rattle.slab.specs.Slab.{slab_len}
use Rattle.shore_nodes.specs.Nodes.{alive, pairs_from}
use Rattle.shore_nodes.proofs.NodeLemmas.{queue_requests}
use Rattle.shore_nodes.proofs.Spreads.{queue_small}
use Rattle.shore_nodes.specs.Tallies.{Stored}
use Rattle.shore_nodes.proofs.nodes.Nodes.queue.Goals as goal

pub returns : goal.returns
returns c =
    ap (λ walk. requests_at c.args.granule.now (map (λ (p : ℕ × Request). p.1) walk))
    (c.new.ensures ∙ ap (λ head. pairs_from (slab_len c.self.inside.slots) c.self.inside.slots c.self.inside.queues c.self.inside.heads head (after_at c.self.inside.queues head)) c.queue_head-head.ensures.is)
    ∙ queue_requests c.self.inside.heads c.self.inside.slots c.self.inside.queues c.self.inside.lists c.self.inside.owners (alive c.self.inside.history.items) c.args.granule.now c.self.invariant.0
    (queue_small c.args.granule.now c.self.inside.heads c.self.invariant.0.some_heads)
    ∙ ap (requests_at c.args.granule.now) (ap (λ (t : Stored). t.requests) c.self.view_is)
