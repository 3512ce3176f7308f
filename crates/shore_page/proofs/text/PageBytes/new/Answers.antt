use Rattle.std.proofs.Common.{ℕ, List, sym, subst, arith}
use Rattle.std.proofs.lemmas.List.{with_items_is}
use Rattle.shore_page.specs.Layout.{IsPageBytes}
use Rattle.shore_page.specs.Reading.{images_in}
use Rattle.shore_page.proofs.FullLemmas.{full_nothing}
use Rattle.shore_page.proofs.LayoutLemmas.{nothing_laid_out}
use Rattle.shore_page.proofs.text.PageBytes.new.Goals as goal

pub invariant_of-result : goal.invariant_of-result
invariant_of-result c =
    let new = c.put_header.new.out in
    let after = with_items_is c.in_ok-bytes.bytes new (omega (arith, c.put_header.ensures.len, c.in_ok-bytes.ensures.len)) in
    subst (λ (b : List ℕ). IsPageBytes c.args.version b c.args.id 0 0 24 0) (sym after) record { header = c.put_header.ensures.header; laid_out = nothing_laid_out c.args.version new c.put_header.ensures.len; filled = full_nothing (images_in c.args.version new 0) }
