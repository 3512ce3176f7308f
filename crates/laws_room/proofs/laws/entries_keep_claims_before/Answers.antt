use Rattle.laws_room.proofs.Entries.{changed, claim_back, newest_claim, unreserved}
use Rattle.laws_room.proofs.laws.entries_keep_claims_before.Goals as goal

pub returns-clause-change : goal.returns-clause-change
returns-clause-change c v R undos counts a id k m alone = changed v R undos counts k a m id alone

pub returns-clause-undo : goal.returns-clause-undo
returns-clause-undo c v R undos counts a kept e marks rolling k m is = (
  newest_claim v R undos counts k a m kept e marks rolling is,
  unreserved v R undos counts k a m kept e marks rolling is,
  claim_back v R undos counts k a m kept e marks rolling is,
)
