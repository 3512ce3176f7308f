use Rattle.std.proofs.Common.{◌≡◌, ◌≤◌, ◌+◌, ◌*◌, ℕ, List, length, Some, None, inl, refl, sym, ap, subst, ◌∙◌, arith}
use Rattle.shore_types.specs.Versions.{page_room, record_limit}
use Rattle.std.proofs.Math.ListN.{set}
use Rattle.std.proofs.lemmas.List.{with_items_is}
use Rattle.shore_types.specs.Images.{Image}
use Rattle.shore_page.specs.Reading.{images_in}
use Rattle.shore_page.specs.Layout.{AreFull, PageImages, IsPageBytes, IsLaidOut, record_bytes}
use Rattle.shore_page.proofs.WritingLemmas.{header_same}
use Rattle.shore_page.proofs.FullLemmas.{full_more}
use Rattle.shore_page.proofs.LayoutLemmas.{length-images, same_but_images}
use Rattle.shore_page.proofs.text.PageBytes.put.Goals as goal

pub put_image-self-inside-requires : goal.put_image-self-inside-requires
put_image-self-inside-requires c =
    let kept = c.self.invariant in
    let slots = c.self.inside.slots in
    let count : length c.args.self.now.images ≡ slots = sym (ap (λ (p : PageImages). length p.images) c.self.view_is) ∙ length-images c.self.inside.version c.self.inside.bytes.items slots in
    let images : images_in c.self.inside.version c.deref_mut.result.now slots ≡ c.args.self.now.images = ap (λ (b : List ℕ). images_in c.self.inside.version b slots) c.deref_mut.ensures.value ∙ ap (λ (p : PageImages). p.images) c.self.view_is in
    let total : record_bytes (set (images_in c.self.inside.version c.deref_mut.result.now slots) c.args.slot None) ≡ record_bytes (set c.args.self.now.images c.args.slot None) = ap (λ (l : List Image). record_bytes (set l c.args.slot None)) images in
    let all = subst (λ (p : PageImages). 4 * length p.images + record_bytes (set p.images c.args.slot None) + length c.args.bytes.now ≤ page_room p.version) (sym c.self.view_is) c.requires.room in
    let now = ap (λ (p : PageImages). record_bytes (set p.images c.args.slot None)) c.self.view_is in
    record {
      laid_out = subst (λ (b : List ℕ). IsLaidOut c.self.inside.version b slots c.self.inside.end) (sym c.deref_mut.ensures.value) kept.laid_out;
      there = omega (arith, c.requires.there);
      most = subst (λ (p : PageImages). length c.args.bytes.now ≤ record_limit p.version) (sym c.self.view_is) c.requires.most;
      room = omega (arith, all, kept.laid_out.few, length-images c.self.inside.version c.self.inside.bytes.items slots);
    }

pub invariant_of-self : goal.invariant_of-self
invariant_of-self c =
    let kept = c.self.invariant in
    let new = c.put_image-self-inside.new.bytes in
    let slots = c.self.inside.slots in
    let full = c.full_slots-self-inside.result in
    let old = subst (λ (b : List ℕ). IsPageBytes c.self.inside.version b c.self.inside.id c.self.inside.number slots c.self.inside.end c.self.inside.full) (sym c.deref_mut.ensures.value) kept in
    let laid_out = c.put_image-self-inside.ensures.laid_out in
    let after = with_items_is c.self.inside.bytes new (omega (arith, laid_out.whole, old.laid_out.whole, c.deref_mut.ensures.len)) in
    subst (λ (b : List ℕ). IsPageBytes c.self.inside.version b c.self.inside.id c.self.inside.number slots c.put_image-self-inside.result full) (sym after) record {
      header = header_same c.self.inside.version c.deref_mut.result.now new c.self.inside.id c.self.inside.number slots old.laid_out.whole c.put_image-self-inside.ensures.header old.header;
      laid_out = laid_out;
      filled = subst (λ (b : List ℕ). AreFull (images_in c.self.inside.version b slots) full) (c.deref.ensures.value ∙ after) c.full_slots-self-inside.ensures;
    }

pub invariant_of-self-else-slot-self : goal.invariant_of-self-else-slot-self
invariant_of-self-else-slot-self c =
    let kept = c.self.invariant in
    let new = c.put_image-self-inside.new.bytes in
    let old = subst (λ (b : List ℕ). IsPageBytes c.self.inside.version b c.self.inside.id c.self.inside.number c.self.inside.slots c.self.inside.end c.self.inside.full) (sym c.deref_mut.ensures.value) kept in
    let laid_out = c.put_image-self-inside.ensures.laid_out in
    let after = with_items_is c.self.inside.bytes new (omega (arith, laid_out.whole, old.laid_out.whole, c.deref_mut.ensures.len)) in
    subst (λ (b : List ℕ). IsPageBytes c.self.inside.version b c.self.inside.id c.self.inside.number c.self.inside.slots c.put_image-self-inside.result c.self.inside.full) (sym after) record {
      header = header_same c.self.inside.version c.deref_mut.result.now new c.self.inside.id c.self.inside.number c.self.inside.slots old.laid_out.whole c.put_image-self-inside.ensures.header old.header;
      laid_out = laid_out;
      filled = subst (λ (l : List Image). AreFull l c.self.inside.full) (sym c.put_image-self-inside.ensures.images)
          (full_more (images_in c.self.inside.version c.deref_mut.result.now c.self.inside.slots) c.self.inside.full c.args.slot c.self.inside.full c.args.bytes.now
          (omega (arith, c.requires.there, ap (λ (p : PageImages). length p.images) c.self.view_is, length-images c.self.inside.version c.self.inside.bytes.items c.self.inside.slots, length-images c.self.inside.version c.deref_mut.result.now c.self.inside.slots)) old.filled (inl refl));
    }

pub returns-then-slot-self : goal.returns-then-slot-self
returns-then-slot-self c =
    let kept = c.self.invariant in
    let new = c.put_image-self-inside.new.bytes in
    let slots = c.self.inside.slots in
    let old = subst (λ (b : List ℕ). IsLaidOut c.self.inside.version b slots c.self.inside.end) (sym c.deref_mut.ensures.value) kept.laid_out in
    let laid_out = c.put_image-self-inside.ensures.laid_out in
    let after = with_items_is c.self.inside.bytes new (omega (arith, laid_out.whole, old.whole, c.deref_mut.ensures.len)) in
    same_but_images _ c.args.self.now _ _ c.self.view_is
    (ap (λ (b : List ℕ). images_in c.self.inside.version b slots) after ∙ c.put_image-self-inside.ensures.images
    ∙ ap (λ (b : List ℕ). set (images_in c.self.inside.version b slots) c.args.slot (Some c.args.bytes.now)) c.deref_mut.ensures.value
    ∙ ap (λ (p : PageImages). set p.images c.args.slot (Some c.args.bytes.now)) c.self.view_is)

pub returns-else-slot-self : goal.returns-else-slot-self
returns-else-slot-self c =
    let kept = c.self.invariant in
    let new = c.put_image-self-inside.new.bytes in
    let slots = c.self.inside.slots in
    let old = subst (λ (b : List ℕ). IsLaidOut c.self.inside.version b slots c.self.inside.end) (sym c.deref_mut.ensures.value) kept.laid_out in
    let laid_out = c.put_image-self-inside.ensures.laid_out in
    let after = with_items_is c.self.inside.bytes new (omega (arith, laid_out.whole, old.whole, c.deref_mut.ensures.len)) in
    same_but_images _ c.args.self.now _ _ c.self.view_is
    (ap (λ (b : List ℕ). images_in c.self.inside.version b slots) after ∙ c.put_image-self-inside.ensures.images
    ∙ ap (λ (b : List ℕ). set (images_in c.self.inside.version b slots) c.args.slot (Some c.args.bytes.now)) c.deref_mut.ensures.value
    ∙ ap (λ (p : PageImages). set p.images c.args.slot (Some c.args.bytes.now)) c.self.view_is)
