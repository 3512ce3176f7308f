use Rattle.shore_analysis.proofs.prepares.may_prepare.Goals as goal

pub returns : goal.returns
returns c t some meant is =
    let granules = c.are_granules.ensures.0 c.if-not-are_granules.false in
    let covered = c.cover_changes.ensures c.args.geometry.now t meant some is in
    (λ h. (granules, covered.0 h), λ both. covered.1 both.1)
