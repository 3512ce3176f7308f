use Rattle.shore_cycles.proofs.MarkLemmas.{IsLeft}
use Rattle.shore_cycles.proofs.marks.Marks.has.Given as goal

abbrev pub invariant-loop-number : goal.invariant-loop-number
invariant-loop-number l = IsLeft l.self-inside.marks.items l.txn l.number

abbrev pub decreases-loop-number : goal.decreases-loop-number
decreases-loop-number l = l.number
