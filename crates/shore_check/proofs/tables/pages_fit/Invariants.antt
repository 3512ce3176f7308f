use Rattle.std.specs.Prelude.{All}
use Rattle.std.proofs.Common.{take}
use Rattle.shore_logrec.specs.Text.{DirtyFits}
use Rattle.shore_check.proofs.tables.pages_fit.Given as goal

abbrev pub invariant-loop-entry : goal.invariant-loop-entry
invariant-loop-entry l = All DirtyFits (take l.entry-index l.dirty)
