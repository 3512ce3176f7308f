use Rattle.laws_calls.proofs.VictimLaws.{victim_only_told, victim_to_tell}
use Rattle.laws_calls.proofs.cycles.victims_are_told.Goals as goal

pub returns-clause-waits : goal.returns-clause-waits
returns-clause-waits d o found es s new t v b k running = victim_to_tell o found es s k running new t v b

pub returns-clause-only : goal.returns-clause-only
returns-clause-only d g o found es s new session step w cycle k running = victim_only_told o found es s k running g new session step w cycle
