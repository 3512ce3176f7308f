use Rattle.std.proofs.Common.{length, sym, subst}
use Rattle.std.specs.Prelude.{◌↔◌, Contains, IsTrue}
use Rattle.shore_analysis.proofs.GranuleLists.{found_if, in_range}
use Rattle.shore_analysis.proofs.prepares.has.Goals as goal

pub returns : goal.returns
returns c =
    let r = c.binary_search.result in
    let gs = c.args.granules.now in
    let found = found_if gs c.args.granule.now c.requires r c.binary_search.ensures.position (λ i is. in_range r (length gs) i c.binary_search.ensures.bound is) in
    subst (λ b. IsTrue b ↔ Contains gs c.args.granule.now) (sym c.is_ok.ensures.value) found
