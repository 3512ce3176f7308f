use Rattle.std.proofs.Common.{◌≡◌, true, false, Option, None, Some, IfSome, is_some, sym, ap, ◌∙◌}
use Rattle.shore_page.specs.Slots.{PageState}
use Rattle.shore_page.specs.Text.{IsPageText, images_of}
use Rattle.shore_dwrite.specs.Volumes.{IsImageOf}
use Rattle.shore_dwrite.proofs.Numbers.{image_is, text_is_of}
use Rattle.shore_dwrite.proofs.replay.is_image.Goals as goal

pub returns-clause-no : goal.returns-clause-no
returns-clause-no c none is =
    let text = text_is_of c.args.geometry.now c.args.number c.page_of-id.result c.args.bytes.now c.page_of-id.ensures.there c.page_of-id.ensures.number is in
    let only = c.in_ok-from_bytes.ensures.only is.lsn is.images text in
    let clash : true ≡ false = sym (c.is_some.ensures ∙ ap is_some only) ∙ none in
    absurd cc

pub returns-clause-yes : goal.returns-clause-yes
returns-clause-yes c some = by c.in_ok-from_bytes.field-0 (sym c.is_some.ensures ∙ some) c.in_ok-from_bytes.ensures.found
  where
    by : (o : Option PageState) → is_some o ≡ true
        → IfSome o (λ page. (page.version ≡ c.args.geometry.now.version) × IsPageText c.args.geometry.now.version c.args.bytes.now c.page_of-id.result page.number (images_of page.slots))
        → IsImageOf c.args.geometry.now c.args.number c.args.bytes.now
    by None is found = absurd cc
    by (Some page) is found =
        image_is c.args.geometry.now c.args.number c.page_of-id.result c.args.bytes.now page.number (images_of page.slots) c.page_of-id.ensures.there c.page_of-id.ensures.number found.1
