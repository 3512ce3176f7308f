use Rattle.std.proofs.Common.{None, sym, ap, subst, ◌∙◌, vec_capacity}
use Rattle.shore_page.specs.Slots.{PageState}
use Rattle.shore_page.specs.Room.{ChangesOne}
use Rattle.shore_page.specs.Layout.{PageImages, slots_of, HasClaims}
use Rattle.shore_page.proofs.PageLemmas.{page_of, raised_facts, raised_put, raised_kept, raised_one, same_but_slots}
use Rattle.shore_page.proofs.page.Page.empty.Goals as goal

pub clear-requires : goal.clear-requires
clear-requires c =
    (raised_facts c.self.inside.text.images c.self.inside.claims.items c.args.self.now.slots c.args.slot 0 c.self.invariant.same (ap (λ (p : PageState). p.slots) (c.self.view_is ∙ c.raise.ensures.raised))).0

pub invariant_of-self : goal.invariant_of-self
invariant_of-self c =
    let is = ap (λ (p : PageState). p.slots) (c.self.view_is ∙ c.raise.ensures.raised) in
    subst (λ (t : PageImages). HasClaims t.version t.images c.self.inside.claims.items (vec_capacity c.self.inside.claims) c.self.inside.claimed) (sym c.clear.ensures)
    (raised_kept c.self.inside.text.version c.self.inside.text.images c.self.inside.claims.items (vec_capacity c.self.inside.claims) c.self.inside.claimed c.args.self.now.slots c.args.slot None c.self.invariant is)

pub returns-clause-emptied : goal.returns-clause-emptied
returns-clause-emptied c =
    let view = c.self.view_is ∙ c.raise.ensures.raised in
    ap (λ (t : PageImages). page_of t c.self.inside.claims.items) c.clear.ensures
    ∙ same_but_slots _ _ _ _ view (raised_put c.self.inside.text.images c.self.inside.claims.items c.args.self.now.slots c.args.slot None c.self.invariant.same (ap (λ (p : PageState). p.slots) view))

pub returns-clause-one : goal.returns-clause-one
returns-clause-one c =
    let is = ap (λ (p : PageState). p.slots) (c.self.view_is ∙ c.raise.ensures.raised) in
    subst (λ (t : PageImages). ChangesOne c.args.self.now.version c.args.self.now.slots (slots_of t.images c.self.inside.claims.items) c.args.slot None) (sym c.clear.ensures)
    (raised_one c.args.self.now.version c.self.inside.text.images c.self.inside.claims.items c.args.self.now.slots c.args.slot None c.self.invariant.same is c.raise.ensures.room c.requires)
