use Rattle.shore_dwrite.proofs.TableLemmas.{HasFirst}
use Rattle.shore_dwrite.proofs.table.table_of.Given as goal

abbrev pub invariant-loop-i : goal.invariant-loop-i
invariant-loop-i l = HasFirst l.table l.numbers l.i
