use Rattle.shore_world.proofs.StayLemmas.{all_served}
use Rattle.shore_world.proofs.StoodLemmas.{told_by_its_first, told_has_stood}
use Rattle.shore_world.proofs.promises.locks.cycles_that_are_told_stood.Goals as goal

pub returns-clause-stood : goal.returns-clause-stood
returns-clause-stood c d w last new o es events steps moves session cycle k served runs one =
    told_has_stood o w es k events steps moves last new session cycle (all_served events served) runs one

pub returns-clause-first : goal.returns-clause-first
returns-clause-first c d w last new o es events steps moves session cycle k served runs one =
    told_by_its_first o w es k events steps moves last new session cycle (all_served events served) runs one
