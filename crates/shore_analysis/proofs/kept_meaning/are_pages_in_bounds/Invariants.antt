use Rattle.std.specs.Prelude.{All}
use Rattle.std.proofs.Common.{take}
use Rattle.shore_analysis.specs.KeptMeant.{IsPageInBounds}
use Rattle.shore_analysis.proofs.kept_meaning.are_pages_in_bounds.Given as goal

abbrev pub invariant-loop-dirty : goal.invariant-loop-dirty
invariant-loop-dirty l = All (IsPageInBounds l.geometry l.number) (take l.dirty-index l.pages)
