use Rattle.std.proofs.Common.{◌≡◌, List, get_or, ap, ◌∙◌, arith}
use Rattle.shore_types.specs.Versions.{record_limit, slot_limit}
use Rattle.std.proofs.Math.ListN.{get_or-eq_default}
use Rattle.std.proofs.lemmas.List.{get_or_default}
use Rattle.shore_page.specs.Slots.{Slot, PageState}
use Rattle.shore_page.specs.Room.{need}
use Rattle.shore_page.specs.Layout.{slots_of}
use Rattle.shore_page.proofs.PageLemmas.{length-slots, claim_at-slots, fits_is}
use Rattle.shore_page.proofs.page.Page.fits.Goals as goal
use Rattle.shore_page.proofs.page.Page.fits.Goals.{then-slot-slots, else-slot-slots}

pub returns : goal.returns
returns c =
    let has = c.self.invariant in
    let images = c.self.inside.text.images in
    let cs = c.self.inside.claims.items in
    let slots : slots_of images cs ≡ c.args.self.now.slots = ap (λ (p : PageState). p.slots) c.self.view_is in
    let len = length-slots images cs has.same in
    let claim = claim_at-slots images cs c.args.slot has.same in
    let is : c.if-slot-slots.need ≡ need (slots_of images cs) c.args.slot c.args.bytes =
    elim c.if-slot-slots.branch [
      | then-slot-slots w ↦ (let here : w.index.result.now ≡ get_or cs c.args.slot 0 = w.index.ensures ∙ get_or_default cs c.args.slot w.index.result.now 0 (omega (arith, has.same, c.slot_count-slots.ensures.count)) in
          omega (arith, here, w.need-is, w.saturating_sub-need.ensures, c.slot_count-slots.ensures.count))
      | else-slot-slots w ↦ (let none : get_or cs c.args.slot 0 ≡ 0 = get_or-eq_default cs 0 (omega (arith, has.same, c.slot_count-slots.ensures.count)) in
          omega (arith, w.need-is, c.slot_count-slots.ensures.count))
    ] in
    let version : c.version-version.result ≡ c.args.self.now.version = c.version-version.ensures ∙ ap (λ (p : PageState). p.version) c.self.view_is in
    fits_is c.args.self.now.version c.args.self.now.slots c.args.slot c.args.bytes c.if-slot-slots.need c.free_bytes.result (omega (arith, ap slot_limit version)) (omega (arith, ap record_limit version)) (is ∙ ap (λ (l : List Slot). need l c.args.slot c.args.bytes) slots) c.free_bytes.ensures.free
