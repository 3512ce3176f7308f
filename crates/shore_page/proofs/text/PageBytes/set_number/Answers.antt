use Rattle.std.proofs.Common.{◌≡◌, ℕ, List, sym, ap, subst, ◌∙◌, arith}
use Rattle.std.specs.Vec.{with_items}
use Rattle.std.proofs.lemmas.List.{with_items_is}
use Rattle.shore_types.specs.Images.{Image}
use Rattle.shore_page.specs.Reading.{images_in}
use Rattle.shore_page.specs.Layout.{AreFull, PageImages, IsPageBytes, IsLaidOut}
use Rattle.shore_page.proofs.LayoutLemmas.{number_laid_out, number_images}
use Rattle.shore_page.proofs.text.PageBytes.set_number.Goals as goal

abbrev numbered : PageImages → ℕ → List Image → PageImages
numbered p n l = record { version = p.version; id = p.id; number = n; images = l }

pub invariant_of-self : goal.invariant_of-self
invariant_of-self c =
    let kept = c.self.invariant in
    let new = c.put_number.new.out in
    let old = subst (λ (b : List ℕ). IsPageBytes c.self.inside.version b c.self.inside.id c.self.inside.number c.self.inside.slots c.self.inside.end c.self.inside.full) (sym c.deref_mut.ensures.value) kept in
    let laid_out = number_laid_out c.self.inside.version c.deref_mut.result.now new c.self.inside.slots c.self.inside.end old.laid_out c.put_number.ensures.beside in
    let after = with_items_is c.self.inside.bytes new (omega (arith, laid_out.whole, old.laid_out.whole, c.deref_mut.ensures.len)) in
    subst (λ (b : List ℕ). IsPageBytes c.self.inside.version b c.self.inside.id c.args.number c.self.inside.slots c.self.inside.end c.self.inside.full) (sym after) record {
      header = c.put_number.ensures.header c.self.inside.id c.self.inside.number c.self.inside.slots old.header;
      laid_out = laid_out;
      filled = subst (λ (l : List Image). AreFull l c.self.inside.full) (sym (number_images c.self.inside.version c.deref_mut.result.now new c.self.inside.slots c.self.inside.end old.laid_out c.put_number.ensures.beside)) old.filled;
    }

pub returns : goal.returns
returns c =
    let kept = c.self.invariant in
    let new = c.put_number.new.out in
    let slots = c.self.inside.slots in
    let old = subst (λ (b : List ℕ). IsLaidOut c.self.inside.version b slots c.self.inside.end) (sym c.deref_mut.ensures.value) kept.laid_out in
    let laid_out = number_laid_out c.self.inside.version c.deref_mut.result.now new slots c.self.inside.end old c.put_number.ensures.beside in
    let after = with_items_is c.self.inside.bytes new (omega (arith, laid_out.whole, old.whole, c.deref_mut.ensures.len)) in
    let images : images_in c.self.inside.version (with_items c.self.inside.bytes new).items slots ≡ c.args.self.now.images =
    ap (λ (b : List ℕ). images_in c.self.inside.version b slots) after ∙ number_images c.self.inside.version c.deref_mut.result.now new slots c.self.inside.end old c.put_number.ensures.beside
    ∙ ap (λ (b : List ℕ). images_in c.self.inside.version b slots) c.deref_mut.ensures.value ∙ ap (λ (p : PageImages). p.images) c.self.view_is in
    ap (λ (p : PageImages). numbered p c.args.number (images_in c.self.inside.version (with_items c.self.inside.bytes new).items slots)) c.self.view_is ∙ ap (λ (l : List Image). numbered c.args.self.now c.args.number l) images
