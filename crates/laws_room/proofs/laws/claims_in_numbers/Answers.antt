use Rattle.laws_room.proofs.Numbers.{claim_is, of_one, in_bounds}
use Rattle.laws_room.proofs.laws.claims_in_numbers.Goals as goal

pub returns-clause-greatest : goal.returns-clause-greatest
returns-clause-greatest c R undos p n slot inside = claim_is R undos p n slot inside

pub returns-clause-of_one : goal.returns-clause-of_one
returns-clause-of_one c v R undos counts a e k m among = of_one v R undos counts k a m e among

pub returns-clause-within : goal.returns-clause-within
returns-clause-within c v R undos counts p k = in_bounds v R undos counts k p
