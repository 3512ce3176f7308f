use Rattle.shore_sessions.proofs.RollbackSteps.{images_logged, undo_next_logged}
use Rattle.shore_sessions.proofs.laws.undo_lists_are_logged.Goals as goal

pub returns-clause-undo_next : goal.returns-clause-undo_next
returns-clause-undo_next c = undo_next_logged

pub returns-clause-images : goal.returns-clause-images
returns-clause-images c = images_logged
