use Rattle.std.proofs.Common.{◌≡◌, ◌+◌, List, None, Some, sym, ap, ◌∙◌}
use Rattle.shore_page.specs.Slots.{Slot, image_at_slot}
use Rattle.shore_heap.specs.Scans.{HasBefore}
use Rattle.shore_heap.proofs.Scanned.{none_more, one_more, pushed}
use Rattle.shore_heap.proofs.scans.copy_slot.Goals as goal

pub returns-in-Some : goal.returns-in-Some
returns-in-Some c S same before =
    let id = c.args.id.now in
    let there : image_at_slot (S id) c.args.slot ≡ Some c.in-Some.bytes.now = ap (λ (l : List Slot). image_at_slot l c.args.slot) same ∙ sym c.in-Some.ensures.image in
    pushed (HasBefore S id.store id.page (c.args.slot + 1)) c.push_copy.result _ _ c.push_copy.ensures (one_more S id.store id.page c.args.slot c.args.list.now c.in-Some.bytes.now there before)

pub returns-in-None : goal.returns-in-None
returns-in-None c S same before =
    let id = c.args.id.now in
    let there : image_at_slot (S id) c.args.slot ≡ None = ap (λ (l : List Slot). image_at_slot l c.args.slot) same ∙ sym c.in-None.ensures.image in
    none_more S id.store id.page c.args.slot c.args.list.now there before
