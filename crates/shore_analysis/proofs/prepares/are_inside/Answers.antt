use Rattle.shore_types.specs.Layout.{HasGranule}
use Rattle.std.proofs.Common.{subst, take_all, refl}
use Rattle.std.specs.Prelude.{All}
use Rattle.std.proofs.lemmas.List.Elements.{All-more}
use Rattle.shore_analysis.proofs.prepares.are_inside.Goals as goal

pub loop-granule-preserved : goal.loop-granule-preserved
loop-granule-preserved c =
    All-more (HasGranule c.args.geometry.now) c.args.granules.now c.loop-granule.granule-index c.granule-item.result c.loop-granule-test.true c.loop-granule.invariant
    (subst (HasGranule c.args.geometry.now) c.granule-item.is (c.has_granule.ensures.0 c.if-not-has_granule.false))

pub returns : goal.returns
returns c =
    (λ h. subst (All (HasGranule c.args.geometry.now)) (take_all c.loop-granule.granule-index c.args.granules.now c.loop-granule-test.false) c.loop-granule.invariant, λ h. refl)
