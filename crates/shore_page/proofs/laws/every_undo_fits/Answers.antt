use Rattle.shore_page.proofs.UndoLemmas.{every_undo}
use Rattle.shore_page.proofs.laws.every_undo_fits.Goals as goal

pub returns : goal.returns
returns c = every_undo
