use Rattle.std.proofs.Common.{◌≡◌, ◌<◌, ℕ, List, length, get_or, None, sym, ap, ◌∙◌, arith}
use Rattle.std.proofs.lemmas.Bool.{eqb-true, eq-eqb}
use Rattle.shore_page.specs.Reading.{slot_image}
use Rattle.shore_page.specs.Text.{offset_at}
use Rattle.shore_page.specs.Layout.{PageImages}
use Rattle.shore_page.proofs.LayoutLemmas.{length-images, get-images, image_none, offset_none}
use Rattle.shore_page.proofs.text.PageBytes.is_empty.Goals as goal

pub entry_at-requires : goal.entry_at-requires
entry_at-requires c =
    let kept = c.self.invariant.laid_out in
    let inside : c.args.slot < c.self.inside.slots = omega (arith, length-images c.self.inside.version c.self.inside.bytes.items c.self.inside.slots, ap (λ (p : PageImages). length p.images) c.self.view_is, c.requires) in
    record { whole = ap (λ (l : List ℕ). length l) c.deref.ensures.value ∙ kept.whole; few = omega (arith, kept.few) }

pub returns : goal.returns
returns c =
    let items = c.self.inside.bytes.items in
    let slots = c.self.inside.slots in
    let inside : c.args.slot < slots = omega (arith, length-images c.self.inside.version items slots, ap (λ (p : PageImages). length p.images) c.self.view_is, c.requires) in
    let image : slot_image c.self.inside.version items c.args.slot ≡ get_or c.args.self.now.images c.args.slot None =
    sym (get-images c.self.inside.version items slots c.args.slot inside) ∙ ap (λ (p : PageImages). get_or p.images c.args.slot None) c.self.view_is in
    let offset : c.entry_at.result.offset ≡ offset_at c.self.inside.version items c.args.slot = c.entry_at.ensures.offset ∙ ap (λ (b : List ℕ). offset_at c.self.inside.version b c.args.slot) c.deref.ensures.value in (
      λ test. sym image ∙ image_none c.self.inside.version items c.args.slot (omega (arith, offset, eqb-true c.entry_at.result.offset 0 test)),
      λ none. eq-eqb c.entry_at.result.offset 0 (omega (arith, offset, offset_none c.self.inside.version items c.args.slot (image ∙ none))),
    )
