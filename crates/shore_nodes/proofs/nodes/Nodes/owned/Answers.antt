use Rattle.std.proofs.Common.{ℕ, map, ap, ◌∙◌}
use Rattle.std.specs.Prelude.{filter}
use Rattle.shore_model.specs.declared.requests.Request.{Request}
use Rattle.shore_rings.specs.Rings.{after_at}
use Rattle.slab.specs.Slab.{slab_len}
use Rattle.shore_nodes.specs.Nodes.{alive, pairs_from}
use Rattle.shore_nodes.specs.Tables.{is_for}
use Rattle.shore_nodes.specs.Tallies.{Stored}
use Rattle.shore_nodes.proofs.NodeLemmas.{owner_requests}
use Rattle.shore_nodes.proofs.nodes.Nodes.owned.Goals as goal

pub returns : goal.returns
returns c =
    ap (λ walk. filter (is_for c.args.txn c.args.granule.now) (map (λ (p : ℕ × Request). p.1) walk))
    (c.new.ensures ∙ ap (λ head. pairs_from (slab_len c.self.inside.slots) c.self.inside.slots c.self.inside.owners c.self.inside.heads head (after_at c.self.inside.owners head)) c.owner_head-head.ensures.is)
    ∙ owner_requests c.self.inside.heads c.self.inside.slots c.self.inside.queues c.self.inside.lists c.self.inside.owners (alive c.self.inside.history.items) c.args.txn c.args.granule.now c.self.invariant.0
    ∙ ap (λ (t : Stored). filter (is_for c.args.txn c.args.granule.now) t.requests) c.self.view_is
