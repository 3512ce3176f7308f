use Rattle.std.proofs.Common.{subst}
use Rattle.shore_analysis.specs.declared.kept_passes.Standing.TheVariants.{CutOff, Nowhere, Whole}
use Rattle.shore_analysis.specs.KeptPasses.{StandsAs}
use Rattle.shore_analysis.proofs.KeptMeans.{cut_off_is, cut_off_names, cut_off_says, whole_is, whole_names, whole_says}
use Rattle.shore_analysis.proofs.KeptRecords.{whole_before}
use Rattle.shore_analysis.proofs.kept_passes.stands.Goals as goal

pub returns-in-Whole : goal.returns-in-Whole
returns-in-Whole c one number bounds sizes known_as meant =
    let g = c.args.geometry.now in
    let before = c.args.before.now in
    let r = c.args.logged.now in
    let p = c.in-Whole.progress in
    let known : StandsAs g c.args.cut before r (Whole p) = subst (StandsAs g c.args.cut before r) c.in-Whole.is known_as in
    let goes = c.goes_on_whole.ensures one (meant (whole_before c.args.cut before r known.1)) known.0 in (
      λ h. let both = goes.0 h in whole_is g c.args.cut before r one number bounds sizes known.1 p known.0 both.0 both.1,
      λ m. goes.1 (whole_names g c.args.cut before r one number bounds sizes known.1 p known.0 m, whole_says g c.args.cut before r one number bounds sizes known.1 p known.0 m),
    )

pub returns-in-CutOff : goal.returns-in-CutOff
returns-in-CutOff c one number bounds sizes known_as meant =
    let g = c.args.geometry.now in
    let before = c.args.before.now in
    let r = c.args.logged.now in
    let last = c.in-CutOff.last in
    let known : StandsAs g c.args.cut before r (CutOff last) = subst (StandsAs g c.args.cut before r) c.in-CutOff.is known_as in
    let goes = c.goes_on_cut_off.ensures in (
      λ h. let both = goes.0 h in cut_off_is g c.args.cut before r one number bounds sizes known.0 known.1 last known.2 both.0 both.1,
      λ m. goes.1 (cut_off_names g c.args.cut before r one number bounds sizes known.0 known.1 last known.2 m, cut_off_says g c.args.cut before r one number bounds sizes known.0 known.1 last known.2 m),
    )

pub returns-in-Nowhere : goal.returns-in-Nowhere
returns-in-Nowhere c one number bounds sizes known_as meant =
    let known : StandsAs c.args.geometry.now c.args.cut c.args.before.now c.args.logged.now Nowhere = subst (StandsAs c.args.geometry.now c.args.cut c.args.before.now c.args.logged.now) c.in-Nowhere.is known_as in
    (λ h. absurd cc, λ m. absurd (known m))
