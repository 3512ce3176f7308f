use Rattle.std.proofs.Common.{sym, subst}
use Rattle.shore_rings.specs.Rings.{IsRing}
use Rattle.shore_rings.proofs.Joins.{ring_added}
use Rattle.shore_rings.proofs.ring.Rings.add.Goals as goal

pub returns-clause-others : goal.returns-clause-others
returns-clause-others c =
    λ head xs ring. subst (λ links. IsRing links head xs) (sym c.in_ok-push.ensures.items)
    (ring_added c.self.inside.links.items (record { before = c.len-node.result; after = c.len-node.result }) head xs (subst (λ links. IsRing links head xs) (sym c.self.view_is) ring))
