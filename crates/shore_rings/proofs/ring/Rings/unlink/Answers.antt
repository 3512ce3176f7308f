use Rattle.std.proofs.Common.{◌≡◌, ◌++◌, sym, subst, ap, ◌∙◌}
use Rattle.shore_rings.specs.Rings.{IsRing, before_at, joined, unlinked}
use Rattle.shore_rings.proofs.Joins.{others_unlinked, ring_unlinked}
use Rattle.shore_rings.proofs.ring.Rings.unlink.Goals as goal

pub returns-clause-ring : goal.returns-clause-ring
returns-clause-ring c =
    let now : c.join-2.new.self ≡ unlinked c.args.node c.args.self.now =
    c.join-2.ensures.links ∙ ap (joined c.args.node c.args.node)
    (c.join.ensures.links ∙ ap (λ p. joined p c.after-next.result c.args.self.now) c.before-previous.ensures.previous ∙ ap (λ n. joined (before_at c.args.self.now c.args.node) n c.args.self.now) c.after-next.ensures.next) in
    λ head xs ys ring. subst (λ links. IsRing links head (xs ++ ys)) (sym now) (ring_unlinked c.args.node c.args.self.now head xs ys ring)

pub returns-clause-others : goal.returns-clause-others
returns-clause-others c =
    let now : c.join-2.new.self ≡ unlinked c.args.node c.args.self.now =
    c.join-2.ensures.links ∙ ap (joined c.args.node c.args.node)
    (c.join.ensures.links ∙ ap (λ p. joined p c.after-next.result c.args.self.now) c.before-previous.ensures.previous ∙ ap (λ n. joined (before_at c.args.self.now c.args.node) n c.args.self.now) c.after-next.ensures.next) in
    λ head xs ys other zs ring others apart. subst (λ links. IsRing links other zs) (sym now)
    (others_unlinked c.args.node c.args.self.now head xs ys other zs ring others apart)
