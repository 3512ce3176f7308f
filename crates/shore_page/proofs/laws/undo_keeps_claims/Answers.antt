use Rattle.shore_page.proofs.UndoLemmas.{undo_claims}
use Rattle.shore_page.proofs.laws.undo_keeps_claims.Goals as goal

pub returns : goal.returns
returns c = undo_claims
