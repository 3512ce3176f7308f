use Rattle.shore_analysis.proofs.MeantLogs.{AreMeant-push}
use Rattle.shore_analysis.proofs.Undone.{undo_goes_on}
use Rattle.shore_analysis.proofs.laws.undo_goes_on.Goals as goal

pub returns-clause-undo : goal.returns-clause-undo
returns-clause-undo c = undo_goes_on

pub returns-clause-longer : goal.returns-clause-longer
returns-clause-longer c = AreMeant-push
