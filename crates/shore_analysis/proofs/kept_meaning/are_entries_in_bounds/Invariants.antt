use Rattle.std.specs.Prelude.{All}
use Rattle.std.proofs.Common.{take}
use Rattle.shore_analysis.specs.KeptMeant.{IsEntryInBounds}
use Rattle.shore_analysis.proofs.kept_meaning.are_entries_in_bounds.Given as goal

abbrev pub invariant-loop-entry : goal.invariant-loop-entry
invariant-loop-entry l = All (IsEntryInBounds l.number) (take l.entry-index l.entries)
