use Rattle.shore_analysis.proofs.KeptWholes.{told_of_whole}
use Rattle.shore_analysis.proofs.doubts.to_be_undone.Goals as goal

pub returns : goal.returns
returns c = told_of_whole (λ v. v.items) c.to_be_undone_behind.result c.args.log.now c.args.newest c.to_be_undone_behind.ensures.all c.to_be_undone_behind.ensures.none
