use Rattle.std.proofs.Common.{◌≡◌, ◌≤◌, ◌+◌, ◌*◌, ◌-◌, ◌++◌, ℕ, List, length, replicate, None, sym, ap, subst, ◌∙◌, arith}
use Rattle.shore_types.specs.Versions.{page_room, sizes}
use Rattle.std.proofs.lemmas.List.{with_items_is}
use Rattle.shore_types.specs.Images.{Image}
use Rattle.shore_page.specs.Reading.{images_in}
use Rattle.shore_page.specs.Layout.{AreFull, PageImages, IsPageBytes, IsLaidOut, record_bytes}
use Rattle.shore_page.proofs.FullLemmas.{full_behind}
use Rattle.shore_page.proofs.LayoutLemmas.{length-images, same_but_images}
use Rattle.shore_page.proofs.text.PageBytes.grow.Goals as goal

pub grow_table-self-inside-requires : goal.grow_table-self-inside-requires
grow_table-self-inside-requires c =
    let kept = c.self.invariant in
    let slots = c.self.inside.slots in
    let count : length c.args.self.now.images ≡ slots = sym (ap (λ (p : PageImages). length p.images) c.self.view_is) ∙ length-images c.self.inside.version c.self.inside.bytes.items slots in
    let images : images_in c.self.inside.version c.deref_mut.result.now slots ≡ c.args.self.now.images = ap (λ (b : List ℕ). images_in c.self.inside.version b slots) c.deref_mut.ensures.value ∙ ap (λ (p : PageImages). p.images) c.self.view_is in
    let total : record_bytes (images_in c.self.inside.version c.deref_mut.result.now slots) ≡ record_bytes c.args.self.now.images = ap record_bytes images in
    let all = subst (λ (p : PageImages). 4 * c.args.slots + record_bytes p.images ≤ page_room p.version) (sym c.self.view_is) c.requires.room in
    let now = ap (λ (p : PageImages). record_bytes p.images) c.self.view_is in
    record {
      laid_out = subst (λ (b : List ℕ). IsLaidOut c.self.inside.version b slots c.self.inside.end) (sym c.deref_mut.ensures.value) kept.laid_out;
      order = omega (arith, c.requires.order);
      few = omega (arith, sizes, all);
      room = omega (arith, all);
    }

pub invariant_of-self : goal.invariant_of-self
invariant_of-self c =
    let kept = c.self.invariant in
    let new = c.grow_table-self-inside.new.bytes in
    let old = subst (λ (b : List ℕ). IsPageBytes c.self.inside.version b c.self.inside.id c.self.inside.number c.self.inside.slots c.self.inside.end c.self.inside.full) (sym c.deref_mut.ensures.value) kept in
    let laid_out = c.grow_table-self-inside.ensures.laid_out in
    let after = with_items_is c.self.inside.bytes new (omega (arith, laid_out.whole, old.laid_out.whole, c.deref_mut.ensures.len)) in
    subst (λ (b : List ℕ). IsPageBytes c.self.inside.version b c.self.inside.id c.self.inside.number c.args.slots c.grow_table-self-inside.result c.self.inside.full) (sym after) record {
      header = c.grow_table-self-inside.ensures.header c.self.inside.id c.self.inside.number old.header;
      laid_out = laid_out;
      filled = subst (λ (l : List Image). AreFull l c.self.inside.full) (sym c.grow_table-self-inside.ensures.images)
          (full_behind (images_in c.self.inside.version c.deref_mut.result.now c.self.inside.slots) (replicate (c.args.slots - c.self.inside.slots) None) c.self.inside.full old.filled);
    }

pub returns : goal.returns
returns c =
    let kept = c.self.invariant in
    let new = c.grow_table-self-inside.new.bytes in
    let slots = c.self.inside.slots in
    let old = subst (λ (b : List ℕ). IsLaidOut c.self.inside.version b slots c.self.inside.end) (sym c.deref_mut.ensures.value) kept.laid_out in
    let laid_out = c.grow_table-self-inside.ensures.laid_out in
    let after = with_items_is c.self.inside.bytes new (omega (arith, laid_out.whole, old.whole, c.deref_mut.ensures.len)) in
    let count : slots ≡ length c.args.self.now.images = sym (length-images c.self.inside.version c.self.inside.bytes.items slots) ∙ ap (λ (p : PageImages). length p.images) c.self.view_is in
    same_but_images _ c.args.self.now _ _ c.self.view_is
    (ap (λ (b : List ℕ). images_in c.self.inside.version b c.args.slots) after ∙ c.grow_table-self-inside.ensures.images
    ∙ ap (λ (b : List ℕ). images_in c.self.inside.version b slots ++ replicate (c.args.slots - slots) None) c.deref_mut.ensures.value
    ∙ ap (λ (p : PageImages). p.images ++ replicate (c.args.slots - slots) None) c.self.view_is
    ∙ ap (λ (n : ℕ). c.args.self.now.images ++ replicate (c.args.slots - n) None) count)
