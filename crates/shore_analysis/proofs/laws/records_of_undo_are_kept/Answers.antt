use Rattle.shore_analysis.proofs.UndoneKept.{undo_kept}
use Rattle.shore_analysis.proofs.laws.records_of_undo_are_kept.Goals as goal

pub returns : goal.returns
returns c g cut kept t all loser = undo_kept g cut kept all t loser
