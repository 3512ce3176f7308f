use Rattle.std.specs.Prelude.{All}
use Rattle.std.proofs.Common.{take}
use Rattle.shore_analysis.specs.KeptMeant.{IsEntryNamed}
use Rattle.shore_analysis.proofs.kept_meaning.are_entries_named.Given as goal

abbrev pub invariant-loop-entry : goal.invariant-loop-entry
invariant-loop-entry l = All (IsEntryNamed l.cut l.before) (take l.entry-index l.entries)
