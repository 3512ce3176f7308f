use Rattle.std.proofs.Common.{◌<◌, ap, subst, sym, ◌∙◌}
use Rattle.std.proofs.lemmas.Bool.Decides.{Decides-eqb}
use Rattle.shore_nodes.specs.Nodes.{alive}
use Rattle.shore_nodes.specs.Tallies.{Stored, crowd}
use Rattle.shore_nodes.proofs.Crowds.{nobody_stands}
use Rattle.shore_nodes.proofs.nodes.Nodes.is_deserted.Goals as goal

pub returns : goal.returns
returns c = λ yes.
    ap (λ (t : Stored). crowd t.heads c.args.head t.requests) (sym c.self.view_is)
    ∙ nobody_stands c.self.inside.heads c.self.inside.slots c.self.inside.queues c.self.inside.lists c.self.inside.owners (alive c.self.inside.history.items) c.args.head c.self.invariant.0
    (subst (λ (t : Stored). c.args.head < t.heads) (sym c.self.view_is) c.requires) (sym c.after.ensures.next ∙ (Decides-eqb c.after.result c.args.head).0 yes)
