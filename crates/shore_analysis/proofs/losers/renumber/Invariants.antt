use Rattle.std.specs.Prelude.{◌≡◌, ◌++◌, map, take, drop}
use Rattle.shore_analysis.specs.Losers.{with_numbers}
use Rattle.shore_analysis.proofs.losers.renumber.Given as goal

abbrev pub invariant-loop-entry : goal.invariant-loop-entry
invariant-loop-entry l = l.entry-items ≡ map (with_numbers l.txn l.last l.undo_next) (take l.entry-index l.fn.entries.items) ++ drop l.entry-index l.fn.entries.items
