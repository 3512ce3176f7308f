use Rattle.std.proofs.Common.{◌≡◌, List, None, length, get_or, sym, ap, ◌∙◌, arith}
use Rattle.shore_types.specs.Images.{Image, image_len}
use Rattle.shore_page.specs.Slots.{PageState}
use Rattle.shore_page.specs.Text.{images_of}
use Rattle.shore_page.proofs.PageLemmas.{images_of-slots}
use Rattle.shore_page.proofs.page.PageSlotted.len_at.Goals as goal

pub record_len-requires : goal.record_len-requires
record_len-requires c =
    let images = images_of-slots c.self.inside.text.images c.self.inside.claims.items c.self.invariant.same in
    omega (arith, c.requires, ap (λ (l : List Image). length l) images, ap (λ (p : PageState). length (images_of p.slots)) c.self.view_is)

pub returns : goal.returns
returns c =
    let images = images_of-slots c.self.inside.text.images c.self.inside.claims.items c.self.invariant.same in
    c.record_len.ensures.len ∙ ap (λ (l : List Image). image_len (get_or l c.args.slot None)) (sym images) ∙ ap (λ (p : PageState). image_len (get_or (images_of p.slots) c.args.slot None)) c.self.view_is
