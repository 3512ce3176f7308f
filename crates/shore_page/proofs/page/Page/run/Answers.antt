use Rattle.std.proofs.Common.{List, Option, IfSome, sym, subst}
use Rattle.shore_types.specs.Images.{Image}
use Rattle.shore_types.specs.Runs.{IsRun}
use Rattle.shore_page.specs.Slots.{PageState}
use Rattle.shore_page.specs.Text.{images_of}
use Rattle.shore_page.proofs.PageLemmas.{images_of-slots}
use Rattle.shore_page.proofs.page.Page.run.Goals as goal

pub returns : goal.returns
returns c =
    let text = c.self.inside.text in
    subst (λ (p : PageState). IfSome c.run.result (λ bytes. IsRun bytes.now (images_of p.slots))) c.self.view_is
    (subst (λ (l : List Image). IfSome c.run.result (λ bytes. IsRun bytes.now l)) (sym (images_of-slots text.images c.self.inside.claims.items c.self.invariant.same)) c.run.ensures)
