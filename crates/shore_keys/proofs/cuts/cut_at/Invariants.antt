use Rattle.shore_keys.proofs.EntriesLeft.{Left}
use Rattle.shore_keys.proofs.Spelling.{Passed, UpTo}
use Rattle.shore_keys.proofs.cuts.cut_at.Given as goal

abbrev pub invariant-loop-at : goal.invariant-loop-at
invariant-loop-at l = Left (Passed (UpTo l.key) l.body l.at l.rest) l.count l.body l.at l.rest
