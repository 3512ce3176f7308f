use Rattle.shore_types.specs.Layout.{HasGranule}
use Rattle.std.specs.Prelude.{All}
use Rattle.std.proofs.Common.{take}
use Rattle.shore_analysis.proofs.prepares.are_inside.Given as goal

abbrev pub invariant-loop-granule : goal.invariant-loop-granule
invariant-loop-granule l = All (HasGranule l.geometry) (take l.granule-index l.granules)
