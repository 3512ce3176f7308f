use Rattle.shore_keys.proofs.EntriesLeft.{Left, NotPassed}
use Rattle.shore_keys.proofs.entries.found_in.Given as goal

abbrev pub invariant-loop : goal.invariant-loop
invariant-loop l = Left (NotPassed l.key) l.count l.body l.counter l.rest
