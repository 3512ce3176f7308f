use Rattle.shore_modes.proofs.ModeTables.{at_most-refl, at_most-trans, at_most-antisym}
use Rattle.shore_modes.proofs.laws.strength_is_an_order.Goals as goal

pub returns-clause-reflexive : goal.returns-clause-reflexive
returns-clause-reflexive c = at_most-refl

pub returns-clause-transitive : goal.returns-clause-transitive
returns-clause-transitive c = at_most-trans

pub returns-clause-antisymmetric : goal.returns-clause-antisymmetric
returns-clause-antisymmetric c = at_most-antisym
