use Rattle.shore_page.proofs.UndoLemmas.{decision_claims}
use Rattle.shore_page.proofs.laws.decision_keeps_claims.Goals as goal

pub returns : goal.returns
returns c = decision_claims
