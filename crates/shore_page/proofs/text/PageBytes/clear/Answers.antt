use Rattle.std.proofs.Common.{ℕ, List, length, None, sym, ap, subst, ◌∙◌, arith}
use Rattle.std.proofs.Math.ListN.{set}
use Rattle.std.proofs.lemmas.List.{with_items_is}
use Rattle.shore_types.specs.Images.{Image}
use Rattle.shore_page.specs.Reading.{images_in}
use Rattle.shore_page.specs.Layout.{AreFull, PageImages, IsPageBytes, IsLaidOut}
use Rattle.shore_page.proofs.WritingLemmas.{header_same}
use Rattle.shore_page.proofs.FullLemmas.{full_cleared}
use Rattle.shore_page.proofs.LayoutLemmas.{length-images, same_but_images}
use Rattle.shore_page.proofs.text.PageBytes.clear.Goals as goal

pub clear_slot-requires : goal.clear_slot-requires
clear_slot-requires c =
    let kept = c.self.invariant in
    record {
      whole = ap (λ (l : List ℕ). length l) c.deref_mut.ensures.value ∙ kept.laid_out.whole;
      few = kept.laid_out.few;
      there = omega (arith, length-images c.self.inside.version c.self.inside.bytes.items c.self.inside.slots, ap (λ (p : PageImages). length p.images) c.self.view_is);
    }

pub invariant_of-self : goal.invariant_of-self
invariant_of-self c =
    let kept = c.self.invariant in
    let new = c.clear_slot.new.bytes in
    let old = subst (λ (b : List ℕ). IsPageBytes c.self.inside.version b c.self.inside.id c.self.inside.number c.self.inside.slots c.self.inside.end c.self.inside.full) (sym c.deref_mut.ensures.value) kept in
    let laid_out = c.clear_slot.ensures.laid_out c.self.inside.end old.laid_out in
    let after = with_items_is c.self.inside.bytes new (omega (arith, laid_out.whole, old.laid_out.whole, c.deref_mut.ensures.len)) in
    subst (λ (b : List ℕ). IsPageBytes c.self.inside.version b c.self.inside.id c.self.inside.number c.self.inside.slots c.self.inside.end c.min-self-inside.result) (sym after) record {
      header = header_same c.self.inside.version c.deref_mut.result.now new c.self.inside.id c.self.inside.number c.self.inside.slots old.laid_out.whole c.clear_slot.ensures.header old.header;
      laid_out = laid_out;
      filled = subst (λ (l : List Image). AreFull l c.min-self-inside.result) (sym (c.clear_slot.ensures.images c.self.inside.end old.laid_out))
          (subst (AreFull (set (images_in c.self.inside.version c.deref_mut.result.now c.self.inside.slots) c.args.slot None)) (sym c.min-self-inside.ensures)
          (full_cleared (images_in c.self.inside.version c.deref_mut.result.now c.self.inside.slots) c.self.inside.full c.args.slot old.filled));
    }

pub returns : goal.returns
returns c =
    let kept = c.self.invariant in
    let new = c.clear_slot.new.bytes in
    let slots = c.self.inside.slots in
    let old = subst (λ (b : List ℕ). IsLaidOut c.self.inside.version b slots c.self.inside.end) (sym c.deref_mut.ensures.value) kept.laid_out in
    let laid_out = c.clear_slot.ensures.laid_out c.self.inside.end old in
    let after = with_items_is c.self.inside.bytes new (omega (arith, laid_out.whole, old.whole, c.deref_mut.ensures.len)) in
    same_but_images _ c.args.self.now _ _ c.self.view_is
    (ap (λ (b : List ℕ). images_in c.self.inside.version b slots) after ∙ c.clear_slot.ensures.images c.self.inside.end old
    ∙ ap (λ (b : List ℕ). set (images_in c.self.inside.version b slots) c.args.slot None) c.deref_mut.ensures.value
    ∙ ap (λ (p : PageImages). set p.images c.args.slot None) c.self.view_is)
