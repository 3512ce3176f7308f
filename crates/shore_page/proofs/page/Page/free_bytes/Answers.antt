use Rattle.std.proofs.Common.{◌≡◌, ◌-◌, ◌*◌, ap, ◌∙◌, arith}
use Rattle.shore_types.specs.Versions.{page_bytes}
use Rattle.shore_page.specs.Slots.{PageState}
use Rattle.shore_page.specs.Room.{free_bytes}
use Rattle.shore_page.specs.Layout.{slots_of}
use Rattle.shore_page.proofs.PageLemmas.{length-slots}
use Rattle.shore_page.proofs.page.Page.free_bytes.Goals as goal

pub overflow_sub-result-2 : goal.overflow_sub-result-2
overflow_sub-result-2 c =
    let has = c.self.invariant in
    omega (arith, has.kept.sum, has.kept.room.room, length-slots c.self.inside.text.images c.self.inside.claims.items has.same, c.slot_count.ensures.count, ap page_bytes c.version.ensures, c.page_bytes-room.ensures.is)

pub returns-clause-free : goal.returns-clause-free
returns-clause-free c =
    let has = c.self.invariant in
    let free : c.page_bytes-room.result - 24 - 4 * c.slot_count.result - c.self.inside.claimed ≡ free_bytes c.self.inside.text.version (slots_of c.self.inside.text.images c.self.inside.claims.items) =
    omega (arith, has.kept.sum, has.kept.room.room, length-slots c.self.inside.text.images c.self.inside.claims.items has.same, c.slot_count.ensures.count, ap page_bytes c.version.ensures, c.page_bytes-room.ensures.is) in
    free ∙ ap (λ (p : PageState). free_bytes p.version p.slots) c.self.view_is
