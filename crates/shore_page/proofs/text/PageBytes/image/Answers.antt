use Rattle.std.proofs.Common.{◌<◌, ◌≤◌, ◌+◌, ℕ, List, None, length, get_or, sym, ap, subst, ◌∙◌, arith}
use Rattle.shore_types.specs.Versions.{page_bytes}
use Rattle.shore_page.specs.Reading.{slot_image}
use Rattle.shore_page.specs.Text.{offset_at, length_at}
use Rattle.shore_page.specs.Layout.{PageImages}
use Rattle.shore_page.proofs.LayoutLemmas.{length-images, get-images}
use Rattle.shore_page.proofs.text.PageBytes.image.Goals as goal

pub image_at-requires : goal.image_at-requires
image_at-requires c =
    let kept = c.self.invariant.laid_out in
    let items = c.self.inside.bytes.items in
    let slots = c.self.inside.slots in
    let inside : c.args.slot < slots = omega (arith, length-images c.self.inside.version items slots, ap (λ (p : PageImages). length p.images) c.self.view_is, c.requires) in
    let within : offset_at c.self.inside.version items c.args.slot + length_at c.self.inside.version items c.args.slot ≤ page_bytes c.self.inside.version = omega (arith, kept.ends c.args.slot inside, kept.back) in
    record {
      whole = ap (λ (l : List ℕ). length l) c.deref.ensures.value ∙ kept.whole;
      few = omega (arith, kept.few);
      within = subst (λ (b : List ℕ). offset_at c.self.inside.version b c.args.slot + length_at c.self.inside.version b c.args.slot ≤ page_bytes c.self.inside.version) (sym c.deref.ensures.value) within;
    }

pub returns : goal.returns
returns c =
    let items = c.self.inside.bytes.items in
    let slots = c.self.inside.slots in
    let inside : c.args.slot < slots = omega (arith, length-images c.self.inside.version items slots, ap (λ (p : PageImages). length p.images) c.self.view_is, c.requires) in
    c.image_at.ensures ∙ ap (λ (b : List ℕ). slot_image c.self.inside.version b c.args.slot) c.deref.ensures.value
    ∙ sym (get-images c.self.inside.version items slots c.args.slot inside) ∙ ap (λ (p : PageImages). get_or p.images c.args.slot None) c.self.view_is
