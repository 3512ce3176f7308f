use Rattle.shore_keys.proofs.Acting.{find-leaves, mend-leaves, other-leaves, put-leaves, take-leaves}
use Rattle.shore_keys.proofs.laws.refusals_leave_the_map.Goals as goal

pub returns-clause-find : goal.returns-clause-find
returns-clause-find c = find-leaves

pub returns-clause-put : goal.returns-clause-put
returns-clause-put c = put-leaves

pub returns-clause-take : goal.returns-clause-take
returns-clause-take c = take-leaves

pub returns-clause-mend : goal.returns-clause-mend
returns-clause-mend c = mend-leaves

pub returns-clause-other : goal.returns-clause-other
returns-clause-other c = other-leaves
