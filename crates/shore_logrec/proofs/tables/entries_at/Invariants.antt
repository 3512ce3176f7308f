use Rattle.shore_logrec.proofs.EntriesLeft.{AreLeft}
use Rattle.shore_logrec.proofs.tables.entries_at.Given as goal

abbrev pub invariant-loop : goal.invariant-loop
invariant-loop g l = AreLeft g.T.Entry.reader g.T.Entry.before l.count l.bytes l.entries l.last l.counter l.rest
