use Rattle.std.proofs.Common.{ℕ, map, ap, ◌∙◌}
use Rattle.shore_model.specs.declared.requests.Request.{Request}
use Rattle.shore_model.specs.Requests.{requests_by}
use Rattle.shore_rings.specs.Rings.{after_at}
use Rattle.slab.specs.Slab.{slab_len}
use Rattle.shore_nodes.specs.Nodes.{alive, pairs_from}
use Rattle.shore_nodes.proofs.NodeLemmas.{list_requests}
use Rattle.shore_nodes.proofs.Spreads.{list_small}
use Rattle.shore_nodes.specs.Tallies.{Stored}
use Rattle.shore_nodes.proofs.nodes.Nodes.list.Goals as goal

pub returns : goal.returns
returns c =
    ap (λ walk. requests_by c.args.txn (map (λ (p : ℕ × Request). p.1) walk))
    (c.new.ensures ∙ ap (λ head. pairs_from (slab_len c.self.inside.slots) c.self.inside.slots c.self.inside.lists c.self.inside.heads head (after_at c.self.inside.lists head)) c.list_head-head.ensures.is)
    ∙ list_requests c.self.inside.heads c.self.inside.slots c.self.inside.queues c.self.inside.lists c.self.inside.owners (alive c.self.inside.history.items) c.args.txn c.self.invariant.0
    (list_small c.args.txn c.self.inside.heads c.self.invariant.0.some_heads)
    ∙ ap (requests_by c.args.txn) (ap (λ (t : Stored). t.requests) c.self.view_is)
