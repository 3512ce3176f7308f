use Rattle.std.proofs.Common.{◌≡◌, ◌≤◌, ◌+◌, List, length, None, sym, ap, subst, ◌∙◌, arith}
use Rattle.std.proofs.lemmas.List.{get_or_default}
use Rattle.std.proofs.lemmas.Bool.{leb-true, le-leb}
use Rattle.shore_types.specs.Versions.{slot_limit, sizes}
use Rattle.shore_page.specs.Slots.{Slot, PageState, image_at_slot}
use Rattle.shore_page.specs.Room.{claim_at, HasRoom, IsCandidate}
use Rattle.shore_page.specs.Layout.{slots_of}
use Rattle.shore_page.proofs.PageLemmas.{claim_at-slots, slot_inside}
use Rattle.shore_page.proofs.CandidateLemmas.{image_read, candidate_inside}
use Rattle.shore_page.proofs.page.Page.takes.Goals as goal

pub is_empty-requires : goal.is_empty-requires
is_empty-requires c = slot_inside c.self.inside.text.images c.self.inside.claims.items c.args.self.now.slots c.args.slot c.self.invariant.same (ap (λ (p : PageState). p.slots) c.self.view_is) c.requires.there

pub index-requires : goal.index-requires
index-requires c =
    let there = slot_inside c.self.inside.text.images c.self.inside.claims.items c.args.self.now.slots c.args.slot c.self.invariant.same (ap (λ (p : PageState). p.slots) c.self.view_is) c.requires.there in
    omega (arith, c.self.invariant.same, c.self.inside.claims.ok.0)

pub returns-then-is_empty : goal.returns-then-is_empty
returns-then-is_empty c =
    let images = c.self.inside.text.images in
    let cs = c.self.inside.claims.items in
    let same = c.self.invariant.same in
    let is : slots_of images cs ≡ c.args.self.now.slots = ap (λ (p : PageState). p.slots) c.self.view_is in
    let there = slot_inside images cs c.args.self.now.slots c.args.slot same is c.requires.there in
    let none : image_at_slot c.args.self.now.slots c.args.slot ≡ None =
    sym (ap (λ (l : List Slot). image_at_slot l c.args.slot) is) ∙ image_read images cs c.args.slot same there ∙ c.is_empty.ensures.0 c.if-is_empty.true in
    let claim : c.index.result.now ≡ claim_at c.args.self.now.slots c.args.slot =
    c.index.ensures ∙ get_or_default cs c.args.slot c.index.result.now 0 (omega (arith, same)) ∙ sym (claim_at-slots images cs c.args.slot same) ∙ ap (λ (l : List Slot). claim_at l c.args.slot) is in
    let held : HasRoom c.args.self.now.version c.args.self.now.slots = subst (λ (p : PageState). HasRoom p.version p.slots) c.self.view_is c.self.invariant.kept.room in
    let few : length c.args.self.now.slots ≤ slot_limit c.args.self.now.version = omega (arith, sizes, held.room) in (
      λ test. candidate_inside c.args.self.now.version c.args.self.now.slots c.args.slot c.args.bytes c.args.free c.requires.there few c.requires.most c.requires.free none (omega (arith, claim, leb-true c.args.bytes (c.args.free + c.index.result.now) test)),
      λ fits. le-leb c.args.bytes (c.args.free + c.index.result.now) (omega (arith, claim, fits.fits.room, c.requires.free)),
    )

pub returns-else-is_empty : goal.returns-else-is_empty
returns-else-is_empty c =
    let images = c.self.inside.text.images in
    let cs = c.self.inside.claims.items in
    let is : slots_of images cs ≡ c.args.self.now.slots = ap (λ (p : PageState). p.slots) c.self.view_is in
    let there = slot_inside images cs c.args.self.now.slots c.args.slot c.self.invariant.same is c.requires.there in
    let read = sym (image_read images cs c.args.slot c.self.invariant.same there) ∙ ap (λ (l : List Slot). image_at_slot l c.args.slot) is in (
      λ never. let clash = c.if-is_empty.false in cc,
      λ (fits : IsCandidate c.args.self.now.version c.args.self.now.slots c.args.slot c.args.bytes). c.is_empty.ensures.1 (read ∙ fits.empty),
    )
