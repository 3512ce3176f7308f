use Rattle.std.proofs.Common.{length, sym, ap, ◌∙◌}
use Rattle.shore_page.specs.Slots.{PageState}
use Rattle.shore_page.proofs.PageLemmas.{length-slots}
use Rattle.shore_page.proofs.page.Page.slot_count.Goals as goal

pub returns-clause-count : goal.returns-clause-count
returns-clause-count c = c.slot_count.ensures.count ∙ sym (length-slots c.self.inside.text.images c.self.inside.claims.items c.self.invariant.same) ∙ ap (λ (p : PageState). length p.slots) c.self.view_is
