use Rattle.std.proofs.Common.{◌≡◌, ◌<◌, get_or, length, sym, ap, ◌∙◌, arith}
use Rattle.std.proofs.lemmas.List.{get_or_default}
use Rattle.shore_page.specs.Slots.{PageState}
use Rattle.shore_page.specs.Room.{claim_at}
use Rattle.shore_page.proofs.PageLemmas.{claim_at-slots, length-slots}
use Rattle.shore_page.proofs.page.Page.claim.Goals as goal

pub index-requires : goal.index-requires
index-requires c =
    let has = c.self.invariant in
    omega (arith, c.slot_count.ensures.count, length-slots c.self.inside.text.images c.self.inside.claims.items has.same, ap (λ (p : PageState). length p.slots) c.self.view_is, has.same, c.if-slot-slot_count.false)

pub returns : goal.returns
returns c =
    let has = c.self.invariant in
    let images = c.self.inside.text.images in
    let cs = c.self.inside.claims.items in
    let there : c.args.slot < length cs = omega (arith, c.slot_count.ensures.count, length-slots images cs has.same, ap (λ (p : PageState). length p.slots) c.self.view_is, has.same, c.if-slot-slot_count.false) in
    let here : c.index.result.now ≡ get_or cs c.args.slot 0 = c.index.ensures ∙ get_or_default cs c.args.slot c.index.result.now 0 there in
    here ∙ sym (claim_at-slots images cs c.args.slot has.same) ∙ ap (λ (p : PageState). claim_at p.slots c.args.slot) c.self.view_is
