use Rattle.shore_keys.proofs.Acting.{acts-found, acts-left, acts-none, acts-put, acts-taken}
use Rattle.shore_keys.proofs.laws.acts_go_on.Goals as goal

pub returns-clause-begins : goal.returns-clause-begins
returns-clause-begins c = acts-none

pub returns-clause-found : goal.returns-clause-found
returns-clause-found c = acts-found

pub returns-clause-put : goal.returns-clause-put
returns-clause-put c = acts-put

pub returns-clause-taken : goal.returns-clause-taken
returns-clause-taken c = acts-taken

pub returns-clause-leaves : goal.returns-clause-leaves
returns-clause-leaves c = acts-left
