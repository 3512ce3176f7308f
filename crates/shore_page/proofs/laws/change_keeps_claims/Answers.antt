use Rattle.shore_page.proofs.UndoLemmas.{change_claims}
use Rattle.shore_page.proofs.laws.change_keeps_claims.Goals as goal

pub returns : goal.returns
returns c = change_claims
