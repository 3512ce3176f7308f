use Rattle.std.proofs.Common.{subst, take_all, refl}
use Rattle.std.specs.Prelude.{All}
use Rattle.std.proofs.lemmas.List.Elements.{All-more}
use Rattle.shore_analysis.specs.KeptMeant.{IsPageInBounds}
use Rattle.shore_analysis.proofs.kept_meaning.are_pages_in_bounds.Goals as goal

pub loop-dirty-preserved : goal.loop-dirty-preserved
loop-dirty-preserved c =
    All-more (IsPageInBounds c.args.geometry.now c.args.number) c.args.pages.now c.loop-dirty.dirty-index c.dirty-item.result c.loop-dirty-test.true c.loop-dirty.invariant
    (subst (IsPageInBounds c.args.geometry.now c.args.number) c.dirty-item.is (c.is_page_in_bounds.ensures.0 c.if-not-is_page_in_bounds.false))

pub returns : goal.returns
returns c =
    (λ h. subst (All (IsPageInBounds c.args.geometry.now c.args.number)) (take_all c.loop-dirty.dirty-index c.args.pages.now c.loop-dirty-test.false) c.loop-dirty.invariant, λ h. refl)
