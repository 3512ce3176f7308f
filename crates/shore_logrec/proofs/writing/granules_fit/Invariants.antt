use Rattle.std.specs.Prelude.{All}
use Rattle.std.proofs.Common.{take}
use Rattle.shore_logrec.specs.Text.{GranuleFits}
use Rattle.shore_logrec.proofs.writing.granules_fit.Given as goal

abbrev pub invariant-loop-granule : goal.invariant-loop-granule
invariant-loop-granule l = All GranuleFits (take l.granule-index l.granules)
