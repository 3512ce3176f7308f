use Rattle.std.proofs.Common.{ℕ, List, sym, subst}
use Rattle.shore_page.specs.Text.{IsPageText}
use Rattle.shore_page.specs.Reading.{images_in}
use Rattle.shore_page.specs.Layout.{PageImages}
use Rattle.shore_page.proofs.SlotsRead.{text_of_table}
use Rattle.shore_page.proofs.text.PageBytes.text.Goals as goal

pub returns : goal.returns
returns c =
    let kept = c.self.invariant in
    let text = text_of_table c.self.inside.version c.self.inside.bytes.items c.self.inside.id c.self.inside.number c.self.inside.slots kept.laid_out.whole kept.header kept.laid_out.table in
    subst (λ (p : PageImages). IsPageText p.version c.deref.result.now p.id p.number p.images) c.self.view_is
    (subst (λ (b : List ℕ). IsPageText c.self.inside.version b c.self.inside.id c.self.inside.number (images_in c.self.inside.version c.self.inside.bytes.items c.self.inside.slots)) (sym c.deref.ensures.value) text)
