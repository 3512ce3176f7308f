use Rattle.std.proofs.Common.{ℕ, map, ap, subst, sym, ◌∙◌, ◌<◌}
use Rattle.shore_model.specs.declared.requests.Request.{Request}
use Rattle.shore_nodes.specs.Nodes.{alive}
use Rattle.shore_nodes.specs.Tallies.{Stored, crowd}
use Rattle.shore_nodes.proofs.Crowds.{crowd_requests}
use Rattle.shore_nodes.proofs.nodes.Nodes.crowd.Goals as goal

pub returns : goal.returns
returns c =
    ap (map (λ (p : ℕ × Request). p.1)) c.new.ensures
    ∙ crowd_requests c.self.inside.heads c.self.inside.slots c.self.inside.queues c.self.inside.lists c.self.inside.owners (alive c.self.inside.history.items) c.args.head c.self.invariant.0
    (subst (λ (t : Stored). c.args.head < t.heads) (sym c.self.view_is) c.requires)
    ∙ ap (λ (t : Stored). crowd t.heads c.args.head t.requests) c.self.view_is
