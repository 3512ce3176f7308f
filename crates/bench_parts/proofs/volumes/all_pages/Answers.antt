use Rattle.std.proofs.Common.{◌<◌, ◌+◌, List, subst, sym, ap, [], ◌∷◌, All, ℕ, length, length-append, arith, ◌∙◌}
use Rattle.std.proofs.lemmas.List.Elements.{All-push}
use Rattle.shore_dwrite.specs.Images.{numbers_of}
use Rattle.shore_page.specs.Text.{IsPageText, images_of}
use Rattle.shore_types.specs.declared.versions.Version.{Version}
use Rattle.bench_parts.proofs.Images.{image_is, within_is}
use Rattle.bench_parts.proofs.volumes.all_pages.Goals as goal

pub loop-page-preserved : goal.loop-page-preserved
loop-page-preserved c =
    let page = c.loop-page.page in
    let within : page < 32 = c.loop-page-test.true in
    let numbers = numbers_of c.loop-page.images in
    let pushed = c.in_ok-push.ensures.numbers in
    record {
      so_far = λ g stores version.
          let reads = subst (λ (v : Version). IsPageText v c.text-in-loop-page.result.now c.in_ok-empty_page.field-0.id c.in_ok-empty_page.field-0.number
          (images_of c.in_ok-empty_page.field-0.slots)) (c.in_ok-empty_page.ensures.version ∙ sym version) c.text-in-loop-page.ensures in
          c.in_ok-push.ensures.goes_on g (c.loop-page.invariant.so_far g stores version) c.loop-page.invariant.below (c.loop-page.invariant.version ∙ sym version)
          (within_is g page stores within)
          (image_is g page _ _ _ _ stores c.in_ok-empty_page.ensures.id within reads);
      below = subst (λ (l : List ℕ). All (λ k. k < page + 1) l) (sym pushed)
          (All-push (λ k. k < page + 1) numbers page (λ k d lt. let below = c.loop-page.invariant.below k d lt in omega (arith, below)) (omega arith));
      count = omega (arith, ap length pushed, length-append numbers (page ∷ []), c.loop-page.invariant.count);
      version = c.in_ok-push.ensures.version ∙ c.loop-page.invariant.version;
    }

pub returns-clause-batch : goal.returns-clause-batch
returns-clause-batch c g stores version =
    let so_far = c.loop-page.invariant.so_far g stores version in
    record {
      some = omega (arith, c.loop-page.invariant.count, c.loop-page-test.false);
      most = omega (arith, c.loop-page.invariant.count, c.loop-page-test.false, c.loop-page.auto.page-end);
      rise = so_far.rise;
      on_volume = so_far.on_volume;
      images = so_far.images;
    }
