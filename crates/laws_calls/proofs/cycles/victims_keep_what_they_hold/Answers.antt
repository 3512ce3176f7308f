use Rattle.std.proofs.Common.{ap}
use Rattle.laws_calls.proofs.VictimLaws.{victim_keeps_images, victim_keeps_locks, victim_quiet}
use Rattle.laws_calls.proofs.cycles.victims_keep_what_they_hold.Goals as goal
use Rattle.laws_calls.specs.States.{State}

pub returns-clause-locks : goal.returns-clause-locks
returns-clause-locks d o found es s new t v u k h = victim_keeps_locks o found es s new t v k h u

pub returns-clause-quiet : goal.returns-clause-quiet
returns-clause-quiet d = victim_quiet

pub returns-clause-changes : goal.returns-clause-changes
returns-clause-changes d s new t v h = (ap (λ (x : State). x.sessions.records) h.is, ap (λ (x : State). x.log) h.is)

pub returns-clause-images : goal.returns-clause-images
returns-clause-images d o found es s new t v a b k h = victim_keeps_images o found es s new t v k h a b
