use Rattle.std.proofs.Common.{◌≡◌, ◌≤◌, ◌*◌, ◌+◌, ◌++◌, ◌∷◌, [], ℕ, List, length, Some, sym, ap, subst, ◌∙◌, arith}
use Rattle.shore_types.specs.Versions.{page_bytes, page_room, record_limit, sizes}
use Rattle.std.proofs.lemmas.List.{with_items_is}
use Rattle.shore_types.specs.Images.{Image}
use Rattle.shore_page.specs.Reading.{images_in}
use Rattle.shore_page.specs.Layout.{AreFull, PageImages, IsPageBytes, IsLaidOut, record_bytes}
use Rattle.shore_page.proofs.FullLemmas.{full_pushed}
use Rattle.shore_page.proofs.LayoutLemmas.{length-images, same_but_images}
use Rattle.shore_page.proofs.text.PageBytes.append.Goals as goal

pub append_image-self-inside-requires : goal.append_image-self-inside-requires
append_image-self-inside-requires c =
    let kept = c.self.invariant in
    let slots = c.self.inside.slots in
    let count : length c.args.self.now.images ≡ slots = sym (ap (λ (p : PageImages). length p.images) c.self.view_is) ∙ length-images c.self.inside.version c.self.inside.bytes.items slots in
    let images : images_in c.self.inside.version c.deref_mut.result.now slots ≡ c.args.self.now.images = ap (λ (b : List ℕ). images_in c.self.inside.version b slots) c.deref_mut.ensures.value ∙ ap (λ (p : PageImages). p.images) c.self.view_is in
    let total : record_bytes (images_in c.self.inside.version c.deref_mut.result.now slots) ≡ record_bytes c.args.self.now.images = ap record_bytes images in
    let few = subst (λ (p : PageImages). 28 + 4 * length p.images ≤ page_bytes p.version) (sym c.self.view_is) c.requires.few in
    let room = subst (λ (p : PageImages). 4 * (length p.images + 1) + record_bytes p.images + length c.args.bytes.now ≤ page_room p.version) (sym c.self.view_is) c.requires.room in
    let now = ap (λ (p : PageImages). record_bytes p.images) c.self.view_is in
    record {
      laid_out = subst (λ (b : List ℕ). IsLaidOut c.self.inside.version b slots c.self.inside.end) (sym c.deref_mut.ensures.value) kept.laid_out;
      few = omega (arith, few, length-images c.self.inside.version c.self.inside.bytes.items slots);
      most = subst (λ (p : PageImages). length c.args.bytes.now ≤ record_limit p.version) (sym c.self.view_is) c.requires.most;
      room = omega (arith, room, length-images c.self.inside.version c.self.inside.bytes.items slots);
    }

pub invariant_of-self : goal.invariant_of-self
invariant_of-self c =
    let kept = c.self.invariant in
    let new = c.append_image-self-inside.new.bytes in
    let more = c.self.inside.slots + 1 in
    let old = subst (λ (b : List ℕ). IsPageBytes c.self.inside.version b c.self.inside.id c.self.inside.number c.self.inside.slots c.self.inside.end c.self.inside.full) (sym c.deref_mut.ensures.value) kept in
    let laid_out = c.append_image-self-inside.ensures.laid_out in
    let after = with_items_is c.self.inside.bytes new (omega (arith, laid_out.whole, old.laid_out.whole, c.deref_mut.ensures.len)) in
    subst (λ (b : List ℕ). IsPageBytes c.self.inside.version b c.self.inside.id c.self.inside.number more c.append_image-self-inside.result c.full_with-self-inside.result) (sym after) record {
      header = c.append_image-self-inside.ensures.header c.self.inside.id c.self.inside.number old.header;
      laid_out = laid_out;
      filled = subst (λ (l : List Image). AreFull l c.full_with-self-inside.result) (sym c.append_image-self-inside.ensures.images)
          (full_pushed (images_in c.self.inside.version c.deref_mut.result.now c.self.inside.slots) c.self.inside.full c.self.inside.slots c.full_with-self-inside.result c.args.bytes.now
          (sym (length-images c.self.inside.version c.deref_mut.result.now c.self.inside.slots)) old.filled c.full_with-self-inside.ensures);
    }

pub returns : goal.returns
returns c =
    let kept = c.self.invariant in
    let new = c.append_image-self-inside.new.bytes in
    let slots = c.self.inside.slots in
    let old = subst (λ (b : List ℕ). IsLaidOut c.self.inside.version b slots c.self.inside.end) (sym c.deref_mut.ensures.value) kept.laid_out in
    let laid_out = c.append_image-self-inside.ensures.laid_out in
    let after = with_items_is c.self.inside.bytes new (omega (arith, laid_out.whole, old.whole, c.deref_mut.ensures.len)) in
    same_but_images _ c.args.self.now _ _ c.self.view_is
    (ap (λ (b : List ℕ). images_in c.self.inside.version b (slots + 1)) after ∙ c.append_image-self-inside.ensures.images
    ∙ ap (λ (b : List ℕ). images_in c.self.inside.version b slots ++ Some c.args.bytes.now ∷ []) c.deref_mut.ensures.value
    ∙ ap (λ (p : PageImages). p.images ++ Some c.args.bytes.now ∷ []) c.self.view_is)

pub full_with-self-inside-requires : goal.full_with-self-inside-requires
full_with-self-inside-requires c = omega (arith, sizes, c.self.invariant.filled.there, length-images c.self.inside.version c.self.inside.bytes.items c.self.inside.slots, c.self.invariant.laid_out.few)
