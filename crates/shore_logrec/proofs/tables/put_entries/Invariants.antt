use Rattle.shore_logrec.proofs.Puttings.{PutSoFar}
use Rattle.shore_logrec.proofs.tables.put_entries.Given as goal

abbrev pub invariant-loop-entry : goal.invariant-loop-entry
invariant-loop-entry g l = PutSoFar g.T.Entry.entry_text l.fn.out l.out l.entries l.entry-index
