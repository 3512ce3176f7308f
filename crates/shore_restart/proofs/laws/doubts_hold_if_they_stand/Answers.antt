use Rattle.shore_restart.proofs.DoubtLaws.{held_if_stand, none_cannot, one_cannot, stand_if_held, taken_or_refused}
use Rattle.shore_restart.proofs.laws.doubts_hold_if_they_stand.Goals as goal

pub returns-clause-stand : goal.returns-clause-stand
returns-clause-stand c g log limit meant = (stand_if_held g log limit meant, held_if_stand g log limit meant)

pub returns-clause-none : goal.returns-clause-none
returns-clause-none c log limit n hold cannot = none_cannot log limit n hold cannot

pub returns-clause-one : goal.returns-clause-one
returns-clause-one c log limit n m a b = one_cannot log limit n m a b

pub returns-clause-taken : goal.returns-clause-taken
returns-clause-taken c g cut checkpoint kept n taken refused = taken_or_refused g cut checkpoint kept n taken refused
