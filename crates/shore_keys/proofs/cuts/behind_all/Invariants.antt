use Rattle.shore_keys.proofs.EntriesLeft.{Left}
use Rattle.shore_keys.proofs.Spelling.{Passed}
use Rattle.shore_keys.proofs.cuts.behind_all.Given as goal

abbrev pub invariant-loop : goal.invariant-loop
invariant-loop l = Left (Passed (λ below. Unit {0}) l.body l.counter l.rest) l.count l.body l.counter l.rest
