use Rattle.shore_keys.proofs.Drops.{NoneHas}
use Rattle.shore_keys.proofs.EntriesLeft.{Left}
use Rattle.shore_keys.proofs.Spelling.{Passed}
use Rattle.shore_keys.proofs.cuts.found_at.Given as goal

abbrev pub invariant-loop-at : goal.invariant-loop-at
invariant-loop-at l = Left (Passed (NoneHas l.key) l.body l.at l.rest) l.count l.body l.at l.rest
