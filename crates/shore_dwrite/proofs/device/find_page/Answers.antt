use Rattle.std.proofs.Common.{◌≡◌, inr, IfSome, refl, sym, subst, ◌∙◌, arith}
use Rattle.shore_page.specs.Text.{IsPageText, images_of}
use Rattle.shore_dwrite.proofs.device.find_page.Goals as goal

pub returns-clause-found : goal.returns-clause-found
returns-clause-found c =
    let page = c.in-Some.page in
    let text : IsPageText c.args.version c.args.bytes.now c.args.id.now page.number (images_of page.slots) =
    (subst (λ found. IfSome found (λ page. (page.version ≡ c.args.version) × IsPageText c.args.version c.args.bytes.now c.args.id.now page.number (images_of page.slots))) c.in-Some.is c.in_ok-page.ensures.found).1 in
    let only = sym c.in-Some.is ∙ c.in_ok-page.ensures.only page.number (images_of page.slots) text in
    (text, subst (λ found. IfSome found (λ other. page ≡ other)) only refl, omega (arith, c.number-2.view_is, c.last.view_is, c.number.ensures, c.if-number-last.false))

pub returns-in_default-clause-refused : goal.returns-in_default-clause-refused
returns-in_default-clause-refused c = inr (c.damaged.ensures, λ number images text. absurd (c.in_default.not-Some _ (c.in_ok-page.ensures.only number images text)))
