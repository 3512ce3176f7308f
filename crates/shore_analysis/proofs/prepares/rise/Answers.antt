use Rattle.std.proofs.Common.{◌≡◌, true, false, refl, sym, ◌∙◌}
use Rattle.shore_analysis.proofs.GranuleLists.{fallen, rise_more, risen}
use Rattle.shore_analysis.proofs.prepares.rise.Goals as goal

pub returns-then-not-is_below : goal.returns-then-not-is_below
returns-then-not-is_below c = (
  λ h. absurd cc,
  λ h. absurd (fallen c.args.granules.now c.loop-index.index c.index-granules-index.result c.index-granules-index-in-loop-index.result c.loop-index.auto.index c.loop-index-test.true
      c.index-granules-index.is c.index-granules-index-in-loop-index.is (λ less. let below : true ≡ false = sym (c.is_below.ensures.1 less) ∙ c.if-not-is_below.true in cc) h),
)

pub loop-index-preserved : goal.loop-index-preserved
loop-index-preserved c =
    rise_more c.args.granules.now c.loop-index.index c.index-granules-index.result c.index-granules-index-in-loop-index.result c.loop-index.auto.index c.loop-index-test.true
    c.index-granules-index.is c.index-granules-index-in-loop-index.is (c.is_below.ensures.0 c.if-not-is_below.false) c.loop-index.invariant

pub returns : goal.returns
returns c = (λ h. risen c.args.granules.now c.loop-index.index c.loop-index-test.false c.loop-index.invariant, λ h. refl)
