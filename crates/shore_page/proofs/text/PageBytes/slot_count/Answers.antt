use Rattle.std.proofs.Common.{length, sym, ap, ◌∙◌}
use Rattle.shore_page.specs.Layout.{PageImages}
use Rattle.shore_page.proofs.LayoutLemmas.{length-images}
use Rattle.shore_page.proofs.text.PageBytes.slot_count.Goals as goal

pub returns-clause-count : goal.returns-clause-count
returns-clause-count c = sym (length-images c.self.inside.version c.self.inside.bytes.items c.self.inside.slots) ∙ ap (λ (p : PageImages). length p.images) c.self.view_is
