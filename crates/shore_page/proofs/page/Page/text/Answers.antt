use Rattle.std.proofs.Common.{List, sym, subst}
use Rattle.shore_types.specs.Images.{Image}
use Rattle.shore_page.specs.Slots.{PageState}
use Rattle.shore_page.specs.Text.{IsPageText, images_of}
use Rattle.shore_page.proofs.PageLemmas.{images_of-slots}
use Rattle.shore_page.proofs.page.Page.text.Goals as goal

pub returns : goal.returns
returns c =
    let text = c.self.inside.text in
    subst (λ (p : PageState). IsPageText p.version c.text.result.now p.id p.number (images_of p.slots)) c.self.view_is
    (subst (λ (l : List Image). IsPageText c.self.inside.text.version c.text.result.now text.id text.number l) (sym (images_of-slots text.images c.self.inside.claims.items c.self.invariant.same)) c.text.ensures)
