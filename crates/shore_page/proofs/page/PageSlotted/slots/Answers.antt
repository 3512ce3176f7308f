use Rattle.std.proofs.Common.{◌≡◌, List, length, sym, ap, ◌∙◌}
use Rattle.shore_types.specs.Images.{Image}
use Rattle.shore_page.specs.Slots.{PageState}
use Rattle.shore_page.specs.Text.{images_of}
use Rattle.shore_page.proofs.PageLemmas.{images_of-slots}
use Rattle.shore_page.proofs.page.PageSlotted.slots.Goals as goal

pub returns : goal.returns
returns c =
    let images = images_of-slots c.self.inside.text.images c.self.inside.claims.items c.self.invariant.same in
    c.slot_count.ensures.count ∙ ap (λ (l : List Image). length l) (sym images) ∙ ap (λ (p : PageState). length (images_of p.slots)) c.self.view_is
