use Rattle.laws_lives.proofs.UndoEnds.{undo_ends}
use Rattle.laws_lives.proofs.recovery.undo_ends.Goals as goal

pub returns : goal.returns
returns c log lawful = undo_ends log lawful
