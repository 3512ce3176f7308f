use Rattle.std.proofs.Common.{◌≤◌, length, Some, sym, ap, subst, ◌∙◌, vec_capacity}
use Rattle.shore_types.specs.Versions.{record_limit}
use Rattle.shore_page.specs.Slots.{PageState}
use Rattle.shore_page.specs.Room.{ChangesOne}
use Rattle.shore_page.specs.Layout.{PageImages, slots_of, HasClaims}
use Rattle.shore_page.proofs.PageLemmas.{page_of, raised_facts, raised_put, raised_kept, raised_room, raised_one, same_but_slots}
use Rattle.shore_page.proofs.page.Page.replace.Goals as goal

pub put-requires : goal.put-requires
put-requires c =
    let has = c.self.invariant in
    let is = ap (λ (p : PageState). p.slots) (c.self.view_is ∙ c.raise.ensures.raised) in
    record {
      there = (raised_facts c.self.inside.text.images c.self.inside.claims.items c.args.self.now.slots c.args.slot (length c.args.bytes.now) has.same is).0;
      most = subst (λ (p : PageState). length c.args.bytes.now ≤ record_limit p.version) (sym (c.self.view_is ∙ c.raise.ensures.raised)) c.requires.most;
      room = raised_room c.self.inside.text.version c.self.inside.text.images c.self.inside.claims.items (vec_capacity c.self.inside.claims) c.self.inside.claimed c.args.self.now.slots c.args.slot c.args.bytes.now has is;
    }

pub invariant_of-self : goal.invariant_of-self
invariant_of-self c =
    let is = ap (λ (p : PageState). p.slots) (c.self.view_is ∙ c.raise.ensures.raised) in
    subst (λ (t : PageImages). HasClaims t.version t.images c.self.inside.claims.items (vec_capacity c.self.inside.claims) c.self.inside.claimed) (sym c.put.ensures)
    (raised_kept c.self.inside.text.version c.self.inside.text.images c.self.inside.claims.items (vec_capacity c.self.inside.claims) c.self.inside.claimed c.args.self.now.slots c.args.slot (Some c.args.bytes.now) c.self.invariant is)

pub returns-clause-put : goal.returns-clause-put
returns-clause-put c =
    let view = c.self.view_is ∙ c.raise.ensures.raised in
    ap (λ (t : PageImages). page_of t c.self.inside.claims.items) c.put.ensures
    ∙ same_but_slots _ _ _ _ view (raised_put c.self.inside.text.images c.self.inside.claims.items c.args.self.now.slots c.args.slot (Some c.args.bytes.now) c.self.invariant.same (ap (λ (p : PageState). p.slots) view))

pub returns-clause-one : goal.returns-clause-one
returns-clause-one c =
    let is = ap (λ (p : PageState). p.slots) (c.self.view_is ∙ c.raise.ensures.raised) in
    subst (λ (t : PageImages). ChangesOne c.args.self.now.version c.args.self.now.slots (slots_of t.images c.self.inside.claims.items) c.args.slot (Some c.args.bytes.now)) (sym c.put.ensures)
    (raised_one c.args.self.now.version c.self.inside.text.images c.self.inside.claims.items c.args.self.now.slots c.args.slot (Some c.args.bytes.now) c.self.invariant.same is c.raise.ensures.room c.requires)
