use Rattle.std.proofs.Common.{subst, arith}
use Rattle.std.proofs.lemmas.List.Elements.{All-more}
use Rattle.shore_logrec.specs.Text.{GranuleFits, RidFits}
use Rattle.shore_logrec.proofs.writing.granules_fit.Goals as goal

pub loop-granule-preserved : goal.loop-granule-preserved
loop-granule-preserved c =
    let ids : RidFits c.ids-ids.result = record { store = omega arith; page = omega arith; slot = omega arith } in
    All-more GranuleFits c.args.granules.now c.loop-granule.granule-index c.granule-item.result c.loop-granule-test.true c.loop-granule.invariant
    (subst GranuleFits c.granule-item.is (subst RidFits c.ids-ids.ensures ids))
