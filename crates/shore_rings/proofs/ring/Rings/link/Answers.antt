use Rattle.std.proofs.Common.{◌≡◌, ◌++◌, ◌∷◌, [], sym, subst, ap, ◌∙◌}
use Rattle.shore_rings.specs.Rings.{IsRing, joined, linked}
use Rattle.shore_rings.proofs.Joins.{others_linked, ring_linked}
use Rattle.shore_rings.proofs.ring.Rings.link.Goals as goal

pub returns-clause-ring : goal.returns-clause-ring
returns-clause-ring c =
    let now : c.join-2.new.self ≡ linked c.args.head c.args.node c.args.self.now =
    c.join-2.ensures.links ∙ ap (joined c.args.node c.args.head) (c.join.ensures.links ∙ ap (λ l. joined l c.args.node c.args.self.now) c.before-last.ensures.previous) in
    λ xs ring fresh. subst (λ links. IsRing links c.args.head (xs ++ c.args.node ∷ [])) (sym now) (ring_linked c.args.head c.args.node c.args.self.now xs c.requires.node ring fresh)

pub returns-clause-others : goal.returns-clause-others
returns-clause-others c =
    let now : c.join-2.new.self ≡ linked c.args.head c.args.node c.args.self.now =
    c.join-2.ensures.links ∙ ap (joined c.args.node c.args.head) (c.join.ensures.links ∙ ap (λ l. joined l c.args.node c.args.self.now) c.before-last.ensures.previous) in
    λ xs ys other ring others fresh apart. subst (λ links. IsRing links other ys) (sym now)
    (others_linked c.args.head c.args.node c.args.self.now xs ys other c.requires.node ring others fresh apart)
