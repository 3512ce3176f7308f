use Rattle.shore_keys.proofs.EntriesLeft.{LastPassed, Left}
use Rattle.shore_keys.proofs.entries.last_up_to.Given as goal

abbrev pub invariant-loop : goal.invariant-loop
invariant-loop l = Left (LastPassed l.key l.last) l.count l.body l.counter l.rest
