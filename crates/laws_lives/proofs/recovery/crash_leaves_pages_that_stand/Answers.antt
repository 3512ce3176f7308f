use Rattle.laws_lives.proofs.Invariant.{crash_stands, from_the_first}
use Rattle.laws_lives.proofs.recovery.crash_leaves_pages_that_stand.Goals as goal

pub returns-clause-stands : goal.returns-clause-stands
returns-clause-stands c s n V k more most left = crash_stands s k n V more most left

pub returns-clause-from_the_first : goal.returns-clause-from_the_first
returns-clause-from_the_first c rs V stand = from_the_first rs V stand
