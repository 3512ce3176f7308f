use Rattle.std.proofs.Common.{◌≡◌, ◌++◌, ◌∷◌, [], ◌<◌, List, Option, None, Some, Bor, refl, sym, subst, ◌∙◌}
use Rattle.std.specs.Prelude.{IfSome, option_copied}
use Rattle.shore_model.specs.declared.requests.Request.{Request}
use Rattle.shore_nodes.specs.Nodes.{alive}
use Rattle.shore_nodes.specs.Tallies.{Stored, crowd}
use Rattle.shore_nodes.proofs.NodeSteps.{last_there}
use Rattle.shore_nodes.proofs.nodes.Nodes.last.Goals as goal

-- of what is borrowed, if anything, its value is known
if_copied : (P : Bor Request → Type 0) (o : Option (Bor Request)) → ((r : Bor Request) → option_copied o ≡ Some r.now → P r) → IfSome o P
if_copied P None h = tt
if_copied P (Some r) h = h r refl

pub returns : goal.returns
returns c =
    if_copied (λ r. (xs : List Request) × (crowd c.args.self.now.heads c.args.head c.args.self.now.requests ≡ xs ++ r.now ∷ [])) c.get.result
    (λ r is. subst (λ (t : Stored). (xs : List Request) × (crowd t.heads c.args.head t.requests ≡ xs ++ r.now ∷ [])) c.self.view_is
    (last_there c.self.inside.heads c.self.inside.slots c.self.inside.queues c.self.inside.lists c.self.inside.owners (alive c.self.inside.history.items) c.args.head c.before-node.result c.saturating_sub.result r.now
    c.self.invariant.0 (subst (λ (t : Stored). c.args.head < t.heads) (sym c.self.view_is) c.requires)
    c.before-node.ensures.previous c.if-node-head.false c.saturating_sub.ensures (sym c.get.ensures ∙ is)))
